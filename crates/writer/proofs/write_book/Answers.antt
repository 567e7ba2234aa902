-- `writer::write_book` meets its contract, as the laws of the answers say. Assumes nothing.
use native.Mathlib.Omega.{arith}
use Rattle.writer.proofs.Laws.{answers_prefix}
use Rattle.writer.proofs.write_book.Goals as goal

pub returns-then-book-gt65536 : goal.returns-then-book-gt65536
returns-then-book-gt65536 c = answers_prefix _ _ _ _ (omega arith) c.write_short.ensures
