-- `point_order::none_left` meets its contract: the units from v up have no EXIT left. Assumes nothing.
use mathlib.Core.Path.{◌≡◌}
use Prim.Native.Nat.{◌≤◌}
use Rattle.flat.specs.Tested.{each_below}
use Rattle.point_order.specs.Passing.{part_of, is_none}
use Rattle.point_order.proofs.none_left.Given as goal

abbrev pub invariant-loop-v : goal.invariant-loop-v
invariant-loop-v l =
    (l.v ≤ l.units) × (each_below (λ u. is_none (part_of l.work l.tops u)) l.units ≡ each_below (λ u. is_none (part_of l.work l.tops u)) l.v)
