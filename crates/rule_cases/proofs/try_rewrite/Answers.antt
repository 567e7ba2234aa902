-- `rule_cases::try_rewrite` meets its contract: a rule that is found is one of the book's, and binds terms. Assumes nothing.
use borrow.Author.Rules.{rules}
use Rattle.rule_cases.proofs.Laws.{fillable}
use Rattle.rule_cases.proofs.try_rewrite.Goals as goal

pub try_fill-size-requires : goal.try_fill-size-requires
try_fill-size-requires c =
    (fillable c.requires c.in-Some-find.ensures.0 c.right_side-right.ensures.0, c.requires.sized, search rules)
