-- `side::read_rule` meets its contract, by the laws of Sides. Assumes nothing.
use Rattle.refusal.proofs.Passing.{passed_up}
use Rattle.side.proofs.Sides.{rule_left_refused, rule_right_refused, rule_read}
use Rattle.side.proofs.read_rule.Goals as goal

pub returns-in_err-left : goal.returns-in_err-left
returns-in_err-left c =
    rw (passed_up c.from_residual.result c.from_residual.ensures.1) (rule_left_refused _ _ _ _ _ c.in_err-left.ensures)

pub returns-in_err-right : goal.returns-in_err-right
returns-in_err-right c =
    rw (passed_up c.from_residual-in_err-right.result c.from_residual-in_err-right.ensures.1)
    (rule_right_refused _ _ _ _ _ c.in_ok-left.ensures _ c.in_err-right.ensures)

pub returns : goal.returns
returns c = rule_read _ _ _ _ _ c.in_ok-left.ensures _ c.in_ok-right.ensures
