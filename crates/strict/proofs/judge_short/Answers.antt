-- `strict::judge_short` meets its contract: the book's own refusal, 24 for a dated book, the verdict of an undated one. Assumes nothing.
use mathlib.Core.Path.{sym, ◌∙◌}
use Rattle.paper.proofs.Strict.{strict_own}
use Rattle.strict.proofs.Books.{dated_told, undated_read, undated_told}
use Rattle.refusal.proofs.Passing.{passed_up}
use Rattle.strict.proofs.judge_short.Goals as goal

pub returns-then-is_dated : goal.returns-then-is_dated
returns-then-is_dated c =
    let is = c.in_ok-n.ensures.is in
    dated_told is.0 (sym c.is_dated.ensures ∙ c.if-is_dated.true)

pub judge-requires : goal.judge-requires
judge-requires c =
    let is = c.in_ok-n.ensures.is in
    undated_read is.0 (sym c.is_dated.ensures ∙ c.if-is_dated.false) is.2 c.requires

pub returns-in_err-n : goal.returns-in_err-n
returns-in_err-n c =
    rw (passed_up c.from_residual.result c.from_residual.ensures.1) (sym (strict_own _ _ c.in_err-n.ensures.is))

pub returns-else-is_dated : goal.returns-else-is_dated
returns-else-is_dated c =
    let is = c.in_ok-n.ensures.is in
    undated_told
    (undated_read is.0 (sym c.is_dated.ensures ∙ c.if-is_dated.false) is.2 c.requires)
    c.judge.ensures
