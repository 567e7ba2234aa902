-- `fees::split` meets its contract: so far the first i parts are written. Assumes nothing.
use mathlib.Core.List.{◌++◌}
use mathlib.Core.Path.{◌≡◌}
use lib.ListN.{drop}
use Rattle.fees.specs.Fees as F
use Rattle.fees.proofs.split.Given as goal

abbrev pub invariant-loop-i : goal.invariant-loop-i
invariant-loop-i l =
    l.parts ≡ F.listed (F.part l.amount l.net l.shares) l.i ++ drop l.i l.initial.parts
