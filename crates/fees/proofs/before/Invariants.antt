-- `fees::before` meets its contract: so far the first j owners are counted. Assumes nothing.
use mathlib.Core.Path.{◌≡◌}
use Prim.Native.Nat.{◌≤◌}
use lib.ListN.{get_or}
use Rattle.fees.specs.Fees as F
use Rattle.fees.proofs.before.Given as goal

abbrev pub invariant-loop-j : goal.invariant-loop-j
invariant-loop-j l =
    (l.count ≤ l.j) × (l.count ≡ F.how_many (λ k. F.comes_before (λ x. get_or l.rests x 0) k l.i) l.j)
