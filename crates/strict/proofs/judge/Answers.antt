-- `strict::judge` meets its contract: an undated book's verdict, test by test. Assumes nothing.
use mathlib.Core.Path.{sym, ◌∙◌}
use Rattle.strict.proofs.Books.{arities_in, said_repeated, said_constantless, said_pair}
use Rattle.strict.proofs.judge.Goals as goal
use Rattle.strict.proofs.judge.Goals.{then-not-all_linear-via-then-not-all_linear, then-not-all_linear-via-else-not-all_linear+then-not-has_constant}

pub returns-then-not-all_linear : goal.returns-then-not-all_linear
returns-then-not-all_linear c =
    elim c.then-not-all_linear.branch [
      | then-not-all_linear-via-then-not-all_linear w ↦ said_repeated _ (sym c.all_linear.ensures ∙ w.if-not-all_linear.true)
      | then-not-all_linear-via-else-not-all_linear+then-not-has_constant w ↦
          said_constantless _ (sym c.all_linear.ensures ∙ w.if-not-all_linear.false)
          (sym (w.has_constant.ensures.is _ (arities_in c.requires)) ∙ w.if-not-has_constant.true)
    ]

pub returns : goal.returns
returns c =
    c.first_pair.ensures.is _ c.find.ensures (sym c.requires.tables.tables.rules_in.counted ∙ sym c.count-m.ensures.0)
    ∙ said_pair _ (sym c.all_linear.ensures ∙ c.if-not-all_linear.false)
    (sym (c.has_constant.ensures.is _ (arities_in c.requires)) ∙ c.if-not-has_constant.false)
