-- `strict::strict_book` meets its contract: what stands behind a book's first 65,536 bytes is not looked at. Assumes nothing.
use mathlib.Core.Path.{◌∙◌}
use native.Mathlib.Omega.{arith}
use Rattle.strict.proofs.Books.{strict_prefix}
use Rattle.strict.proofs.strict_book.Goals as goal

pub returns-then-book-gt65536 : goal.returns-then-book-gt65536
returns-then-book-gt65536 c = c.judge_short.ensures ∙ strict_prefix _ (omega arith)
