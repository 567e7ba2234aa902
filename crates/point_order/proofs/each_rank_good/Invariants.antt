-- `point_order::each_rank_good` meets its contract: the ranks of the units from v up are good. Assumes nothing.
use mathlib.Core.Path.{◌≡◌}
use Prim.Native.Nat.{◌≤◌}
use Rattle.paper.specs.Book.{Book}
use Rattle.flat.specs.Machine.{FlatState}
use Rattle.flat.specs.Tested.{each_below, rank_good}
use Rattle.units.specs.Stacks.{store}
use Rattle.point_order.specs.Promises.{Kept}
use Rattle.point_order.proofs.each_rank_good.Given as goal

abbrev pub invariant-loop-v : goal.invariant-loop-v
invariant-loop-v l =
    (l.v ≤ l.units) × ((B : Book) (z : FlatState) → Kept l.operators l.symbols (store l.work l.cells) l.units B z → each_below (rank_good B z) l.units ≡ each_below (rank_good B z) l.v)
