-- `rule_cases::carry_out` meets its contract: what is printed lies within the arrays. Assumes nothing.
use native.Mathlib.Omega.{arith}
use borrow.Author.Rules.{rules}
use Rattle.rule_cases.proofs.Laws.{due_at_start}
use Rattle.rule_cases.proofs.carry_out.Goals as goal

pub rewrite-requires : goal.rewrite-requires
rewrite-requires c =
    (c.requires, search rules, due_at_start _ _ _ c.start.ensures (omega (arith, c.requires.inside)), c.operator_at-operator.ensures)
