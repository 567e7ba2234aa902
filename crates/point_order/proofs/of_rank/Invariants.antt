-- `point_order::of_rank` meets its contract: so many of the units from v up have the rank. Assumes nothing.
use mathlib.Core.List.{List}
use mathlib.Core.Path.{◌≡◌}
use Prim.Native.Nat.{ℕ, ◌+◌, ◌-◌, ◌≤◌}
use Rattle.flat.specs.Rules.{of_rank}
use Rattle.units.specs.Stacks.{units_from}
use Rattle.point_order.proofs.of_rank.Given as goal

abbrev pub invariant-loop-v : goal.invariant-loop-v
invariant-loop-v l = (l.v ≤ l.count) × (l.n + l.v ≤ l.count) × ((w : List ℕ) → of_rank l.r (units_from w l.cells l.v (l.count - l.v)) ≡ l.n)
