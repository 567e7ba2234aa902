-- `point_frames::all_inside` meets its contract: the loop's invariant: all jobs are inside exactly if those of the units below v are. Assumes nothing.
use mathlib.Core.Path.{◌≡◌}
use Prim.Native.Nat.{◌≤◌}
use Rattle.flat.specs.Tested.{each_below, each_frame}
use Rattle.units.specs.Stacks.{store}
use Rattle.point_frames.specs.Counting.{stack_in}
use Rattle.point_frames.specs.Test as T
use Rattle.point_frames.proofs.all_inside.Given as goal

abbrev pub invariant-loop-v : goal.invariant-loop-v
invariant-loop-v l =
    (l.v ≤ l.units)
    × (each_below (λ u. each_frame (λ i. T.inside l.n) (stack_in (store l.work l.cells) l.units u)) l.units ≡
    each_below (λ u. each_frame (λ i. T.inside l.n) (stack_in (store l.work l.cells) l.units u)) l.v)
