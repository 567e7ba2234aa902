-- `engine::reduce_book` meets its contract, by the laws of Answers and Readers. Assumes nothing.
use mathlib.Core.Path.{refl}
use native.Mathlib.Omega.{arith}
use Rattle.refusal.proofs.Passing.{passed_up}
use Rattle.engine.proofs.Frame.{framed}
use Rattle.engine.proofs.Answers.{by_book, by_line, refuses}
use Rattle.engine.proofs.Readers.{by_tables, reduced_alike, framed_as, as_asked}
use Rattle.engine.proofs.reduce_book.Goals as goal

pub read_book-requires : goal.read_book-requires
read_book-requires c = (c.requires.short, refl)

pub run_checked-requires : goal.run_checked-requires
run_checked-requires c =
    let is = c.in_ok-n.ensures.is in
    let t = rw c.in_ok-length.was at (by_tables is.0 is.2 c.read_term.ensures) in record {
      framed = framed_as c.index.ensures.0 c.requires;
      loaded = record { tables = is.0; day = omega (arith, is.1); given = t.given };
      budget_bound = omega arith;
    }

pub returns-in_err-n : goal.returns-in_err-n
returns-in_err-n c =
    rw (passed_up c.from_residual.result c.from_residual.ensures.1)
    (refuses _ (by_book _ _ (framed _ c.requires.faultless) _ c.in_err-n.ensures.is))

pub returns-in_err-length : goal.returns-in_err-length
returns-in_err-length c =
    let is = c.in_ok-n.ensures.is in
    let e = rw c.in_err-length.was at (by_tables is.0 is.2 c.read_term.ensures) in
    rw (passed_up c.from_residual-in_err-length.result c.from_residual-in_err-length.ensures.1)
    (as_asked refl is.1 (refuses _ (by_line _ _ (framed _ c.requires.faultless) _ is.0.read _ e)))

pub returns : goal.returns
returns c =
    let is = c.in_ok-n.ensures.is in
    let t = rw c.in_ok-length.was at (by_tables is.0 is.2 c.read_term.ensures) in
    let u = c.index.ensures.0 in
    as_asked u is.1 (reduced_alike _ _ (framed_as u c.requires) is.0 t c.run_checked.ensures)
