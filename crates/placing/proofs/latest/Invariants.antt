-- `placing::latest` meets its contract: the loop's invariant: no part behind part i is of the unit. Assumes nothing.
use Rattle.placing.proofs.Order.{NoneLater}
use Rattle.placing.proofs.latest.Given as goal

abbrev pub invariant-loop-i : goal.invariant-loop-i
invariant-loop-i l = NoneLater l.order l.u l.i
