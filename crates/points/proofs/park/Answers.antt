-- `points::park` meets its contract, by the laws of Parks. Assumes nothing.
use mathlib.Core.Path.{sym}
use lib.ListN.{length-take}
use native.Mathlib.Omega.{arith}
use Rattle.refusal.proofs.Passing.{passed_up}
use Rattle.refusal.proofs.Some.{some_number}
use Rattle.engine.proofs.Frame.{faulty}
use Rattle.points.proofs.Parks.{by_frame, refuses, parked_front}
use Rattle.points.proofs.park.Goals as goal

pub returns-in_err-check_frame : goal.returns-in_err-check_frame
returns-in_err-check_frame c =
    rw (passed_up c.from_residual.result c.from_residual.ensures.1)
    (refuses _ (by_frame _ _ _ _ _ (faulty _ _ c.in_err-check_frame.ensures (λ z. omega (arith, some_number c.in_err-check_frame.field-0.0)))))

pub park_book-requires : goal.park_book-requires
park_book-requires c = record {
  faultless = sym c.in_ok-check_frame.ensures;
  short = omega (arith, c.min.ensures, length-take c.min.result c.args.book.now);
}

pub returns : goal.returns
returns c = parked_front c.min.result c.min.ensures c.park_book.ensures
