-- `book::read_rule` meets its contract, by the laws of Rules. Assumes nothing.
use native.Mathlib.Omega.{arith}
use Rattle.refusal.proofs.Passing.{passed_up}
use Rattle.book.proofs.Rules.{rule_inside, day_refused, rule_refused, rule_read}
use Rattle.book.proofs.read_rule.Goals as goal

pub put_sides-requires : goal.put_sides-requires
put_sides-requires c =
    let h = rule_inside c.in_ok-end.ensures c.requires.0 in
    omega (arith, h.0, h.1)

pub returns-in_err-left : goal.returns-in_err-left
returns-in_err-left c =
    rw (passed_up c.from_residual.result c.from_residual.ensures.1)
    (day_refused c.in_err-left.ensures)

pub returns-in_err-end : goal.returns-in_err-end
returns-in_err-end c =
    rw (passed_up c.from_residual-in_err-end.result c.from_residual-in_err-end.ensures.1)
    (rule_refused c.in_ok-left.ensures c.in_err-end.ensures)

pub returns : goal.returns
returns c = rule_read c.in_ok-end.ensures c.in_ok-left.ensures (omega arith) c.put_sides.ensures
