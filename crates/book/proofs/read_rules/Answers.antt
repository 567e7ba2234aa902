-- Answers of `read_rules`. Assumes nothing.
use mathlib.Core.Path.{refl}
use native.Mathlib.Omega.{arith}
use Rattle.refusal.proofs.Passing.{passed_up}
use Rattle.book.proofs.Rules.{rules_none, rules_all, rules_next, rules_stop}
use Rattle.book.proofs.read_rules.Goals as goal

pub loop-i-init : goal.loop-i-init
loop-i-init c = rules_none refl

pub returns-in_err-p : goal.returns-in_err-p
returns-in_err-p c =
    rw (passed_up c.from_residual.result c.from_residual.ensures.1)
    (rules_stop c.loop-i.invariant c.loop-i-test.true c.in_err-p.ensures)

pub loop-i-preserved : goal.loop-i-preserved
loop-i-preserved c = rules_next c.loop-i.invariant c.in_ok-p.ensures

pub returns : goal.returns
returns c = rules_all c.loop-i.auto.i-end c.loop-i-test.false c.loop-i.invariant
