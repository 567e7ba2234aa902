-- `fees::remainders` meets its contract: so far the first i shares are cut, and their remainders written. Assumes nothing.
use mathlib.Core.List.{◌++◌}
use mathlib.Core.Path.{◌≡◌}
use lib.ListN.{drop}
use Rattle.fees.specs.Fees as F
use Rattle.fees.proofs.Loops.{still}
use Rattle.fees.proofs.remainders.Given as goal

abbrev pub invariant-loop-i : goal.invariant-loop-i
invariant-loop-i l =
    (l.rests ≡ F.listed (F.rest_of l.net l.shares) l.i ++ drop l.i l.initial.rests)
    × (l.left ≡ still l.net l.shares l.i)
