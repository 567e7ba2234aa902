-- `point_frames::each_unit_good` meets its contract: the loop's invariant: all units are good exactly if those below v are. Assumes nothing.
use mathlib.Core.Path.{◌≡◌}
use Prim.Native.Nat.{◌≤◌}
use Rattle.paper.specs.Book.{Book}
use Rattle.flat.specs.Machine.{FlatState}
use Rattle.flat.specs.Tested.{each_below}
use Rattle.units.specs.Stacks.{store}
use Rattle.point_frames.specs.Promises.{Point}
use Rattle.point_frames.specs.Test.{stack_tested}
use Rattle.point_frames.proofs.each_unit_good.Given as goal

abbrev pub invariant-loop-v : goal.invariant-loop-v
invariant-loop-v l =
    (l.v ≤ l.units)
    × ((B : Book) (s : FlatState) → Point l.operators l.symbols (store l.work l.cells) l.units B s → each_below (stack_tested B s) l.units ≡ each_below (stack_tested B s) l.v)
