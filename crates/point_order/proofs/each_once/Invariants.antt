-- `point_order::each_once` meets its contract: the ranks above r are each that of one unit. Assumes nothing.
use mathlib.Core.List.{List}
use mathlib.Core.Path.{◌≡◌}
use Prim.Native.Nat.{ℕ, suc}
use lib.Dec.{eqb}
use Rattle.flat.specs.Rules.{of_rank}
use Rattle.flat.specs.Tested.{each_below}
use Rattle.units.specs.Stacks.{units_of}
use Rattle.point_order.proofs.each_once.Given as goal

abbrev pub invariant-loop-r : goal.invariant-loop-r
invariant-loop-r l = (w : List ℕ) →
    each_below (λ i. eqb (of_rank (suc i) (units_of w l.cells l.units)) 1) l.n ≡ each_below (λ i. eqb (of_rank (suc i) (units_of w l.cells l.units)) 1) l.r
