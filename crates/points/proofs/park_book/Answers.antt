-- `points::park_book` meets its contract, by the laws of Parks. Assumes nothing.
use mathlib.Core.Path.{refl, sym}
use native.Mathlib.Omega.{arith}
use Rattle.refusal.proofs.Passing.{passed_up}
use Rattle.engine.proofs.Frame.{framed}
use Rattle.engine.proofs.Readers.{by_tables, framed_as}
use Rattle.points.proofs.Parks.{by_book, by_line, refuses, parked_alike, as_asked}
use Rattle.points.proofs.park_book.Goals as goal

pub read_book-requires : goal.read_book-requires
read_book-requires c = (c.requires.short, refl)

pub park_term-requires : goal.park_term-requires
park_term-requires c =
    let is = c.in_ok-n.ensures.is in
    let t = rw c.in_ok-length.was at (by_tables is.0 is.2 c.read_term.ensures) in record {
      framed = framed_as c.from.ensures c.requires;
      loaded = record { tables = is.0; day = omega (arith, is.1, c.ranges); given = t.given };
      budget_bound = (omega (arith, c.ranges), sym is.1);
    }

pub returns-in_err-n : goal.returns-in_err-n
returns-in_err-n c =
    rw (passed_up c.from_residual.result c.from_residual.ensures.1)
    (refuses _ (by_book _ _ _ _ (framed _ c.requires.faultless) _ c.in_err-n.ensures.is))

pub returns-in_err-length : goal.returns-in_err-length
returns-in_err-length c =
    let is = c.in_ok-n.ensures.is in
    let e = rw c.in_err-length.was at (by_tables is.0 is.2 c.read_term.ensures) in
    rw (passed_up c.from_residual-in_err-length.result c.from_residual-in_err-length.ensures.1)
    (as_asked refl is.1 (refuses _ (by_line _ _ _ _ (framed _ c.requires.faultless) _ is.0.read _ e)))

pub returns : goal.returns
returns c =
    let is = c.in_ok-n.ensures.is in
    let t = rw c.in_ok-length.was at (by_tables is.0 is.2 c.read_term.ensures) in
    let u = c.from.ensures in
    as_asked u is.1 (parked_alike _ _ _ _ (framed_as u c.requires) is.0 t (as_asked refl (sym is.1) c.park_term.ensures))
