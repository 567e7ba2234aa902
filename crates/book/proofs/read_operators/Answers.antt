-- Answers of `read_operators`. Assumes nothing.
use native.Mathlib.Omega.{arith}
use Rattle.refusal.proofs.Passing.{passed_up}
use Rattle.book.proofs.Operators.{operators_none, operators_all, operators_next, operators_stop}
use Rattle.book.proofs.read_operators.Goals as goal

pub loop-o-init : goal.loop-o-init
loop-o-init c = operators_none c.requires.2

pub read_operator-requires : goal.read_operator-requires
read_operator-requires c = (omega arith, omega arith, c.loop-o.invariant.are.2.1.long)

pub returns-in_err-p : goal.returns-in_err-p
returns-in_err-p c =
    rw (passed_up c.from_residual.result c.from_residual.ensures.1)
    (operators_stop c.loop-o.invariant c.loop-o-test.true c.in_err-p.ensures)

pub loop-o-preserved : goal.loop-o-preserved
loop-o-preserved c = operators_next c.loop-o.invariant c.in_ok-p.ensures

pub returns : goal.returns
returns c = operators_all c.loop-o.auto.o-end c.loop-o-test.false c.loop-o.invariant
