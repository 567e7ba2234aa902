-- `text::read_text` meets its contract. Assumes nothing.
use mathlib.Core.Path.{sym, ◌∙◌}
use borrow.Author.Rules.{rules}
use Rattle.text.proofs.Pass.{told_19, told_18, told_read}
use Rattle.text.proofs.read_text.Goals as goal

pub returns-then-not-has_classes : goal.returns-then-not-has_classes
returns-then-not-has_classes c = told_19 _ _ _ _ (search rules) (sym c.has_classes.ensures ∙ c.if-not-has_classes.true)

pub returns-in_default : goal.returns-in_default
returns-in_default c =
    told_18 _ _ _ _ (search rules) _ (sym c.has_classes.ensures ∙ c.if-not-has_classes.false) (rw c.in_default.is at c.fill.ensures)

pub returns : goal.returns
returns c =
    told_read _ _ _ _ (search rules) _ (sym c.has_classes.ensures ∙ c.if-not-has_classes.false) _ (rw c.in-Some.is at c.fill.ensures)
