-- `batch::lines_form` meets its contract, by the laws of Books. Assumes nothing.
use mathlib.Core.Path.{sym}
use native.Mathlib.Omega.{arith}
use Rattle.refusal.proofs.Passing.{passed_up}
use Rattle.batch.proofs.Books.{by_frame, prefix_short, lines_prefix}
use Rattle.batch.proofs.lines_form.Goals as goal

pub returns-in_err-check_frame : goal.returns-in_err-check_frame
returns-in_err-check_frame c =
    rw (passed_up c.from_residual.result c.from_residual.ensures.1) (by_frame _ c.in_err-check_frame.ensures)

pub lines_book-requires : goal.lines_book-requires
lines_book-requires c =
    (sym c.in_ok-check_frame.ensures, prefix_short c.args.book.now)

pub returns-then-book-gt65536 : goal.returns-then-book-gt65536
returns-then-book-gt65536 c = lines_prefix (omega arith) c.lines_book.ensures

pub lines_book-requires-2 : goal.lines_book-requires-2
lines_book-requires-2 c =
    (sym c.in_ok-check_frame.ensures, omega arith)
