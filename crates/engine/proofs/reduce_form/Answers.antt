-- `engine::reduce_form` meets its contract, by the laws of Frame and Answers. Assumes nothing.
use mathlib.Core.Path.{sym}
use native.Mathlib.Omega.{arith}
use Rattle.refusal.proofs.Passing.{passed_up}
use Rattle.refusal.proofs.Some.{some_number}
use Rattle.engine.proofs.Frame.{faulty}
use Rattle.engine.proofs.Answers.{by_frame, refuses, reduced_prefix}
use Rattle.engine.proofs.reduce_form.Goals as goal

pub returns-in_err-check_frame : goal.returns-in_err-check_frame
returns-in_err-check_frame c =
    rw (passed_up c.from_residual.result c.from_residual.ensures.1)
    (refuses _ (by_frame _ _ _ (faulty _ _ c.in_err-check_frame.ensures (λ z. omega (arith, some_number c.in_err-check_frame.field-0.0)))))

pub reduce_book-requires : goal.reduce_book-requires
reduce_book-requires c = record { faultless = sym c.in_ok-check_frame.ensures; short = omega arith }

pub returns-then-book-gt65536 : goal.returns-then-book-gt65536
returns-then-book-gt65536 c = reduced_prefix (omega arith) c.reduce_book.ensures

pub reduce_book-requires-2 : goal.reduce_book-requires-2
reduce_book-requires-2 c = record { faultless = sym c.in_ok-check_frame.ensures; short = omega arith }
