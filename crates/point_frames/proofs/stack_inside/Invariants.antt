-- `point_frames::stack_inside` meets its contract: the loop's invariant: all jobs are inside exactly if those of the lowest h frames are. Assumes nothing.
use mathlib.Core.Path.{◌≡◌}
use Prim.Native.Nat.{◌≤◌}
use Rattle.flat.specs.Tested.{each_frame}
use Rattle.units.specs.Stacks.{base, stack_of, height_in, store}
use Rattle.point_frames.specs.Counting.{stack_in}
use Rattle.point_frames.specs.Test as T
use Rattle.point_frames.proofs.stack_inside.Given as goal

abbrev pub invariant-loop-h : goal.invariant-loop-h
invariant-loop-h l =
    (l.h ≤ height_in l.cells l.v)
    × (each_frame (λ i. T.inside l.n) (stack_in (store l.work l.cells) l.units l.v) ≡ each_frame (λ i. T.inside l.n) (stack_of l.work (base l.v) l.h))
