-- `opening::open` meets its contract, by the laws of Opening. Assumes nothing.
use mathlib.Core.Path.{sym, ◌∙◌}
use Prim.Native.Nat.{◌+◌, ◌-◌}
use native.Mathlib.Omega.{arith}
use Rattle.opening.proofs.Opening.{book_ok, book_err, book_as, cut_short, book_refused, of_book, run_behind}
use Rattle.opening.proofs.open.Goals as goal

pub returns-in_err-get : goal.returns-in_err-get
returns-in_err-get c = rw c.from_residual.ensures (cut_short _ c.requires.front _ c.pair-m.ensures.0 (omega (arith, c.in_err-get.ensures.lookup)))

pub returns-in_err-n : goal.returns-in_err-n
returns-in_err-n c =
    let g = c.in_ok-get.ensures.lookup.0 in
    let (k, e) = book_err c.read_book.result (sym c.ok.ensures.value ∙ c.in_err-n.was) in
    let z = book_as c.args.part.now (4 + c.pair-m.result - 4) c.pair-m.result (omega arith) (rw (g.2, e) at c.read_book.ensures) in
    rw c.from_residual-in_err-n.ensures (book_refused _ c.requires.front _ c.pair-m.ensures.0 g.1 z)

pub open_run-requires : goal.open_run-requires
open_run-requires c =
    let p = c.requires in
    let e = book_ok c.read_book.result (sym c.ok.ensures.value ∙ c.in_ok-n.was) in
    let o = of_book (rw e at c.read_book.ensures) in
    let g = c.in_ok-get.ensures.lookup.0 in (
      record {
        front = p.front;
        few = p.few;
        operators_long = o.tables.operators_in.long;
        symbols_long = p.symbols_long;
        order_long = p.order_long;
        regions = p.regions;
      },
      record { inside = g.1; book = _; is = o },
    )

pub returns : goal.returns
returns c =
    let g = c.in_ok-get.ensures.lookup.0 in
    let e = book_ok c.read_book.result (sym c.ok.ensures.value ∙ c.in_ok-n.was) in
    let z = book_as c.args.part.now (4 + c.pair-m.result - 4) c.pair-m.result (omega arith) (rw (g.2, e) at c.read_book.ensures) in
    run_behind _ c.requires.front _ c.pair-m.ensures.0 g.1 z c.pair-day.ensures.0 _ c.open_run.ensures
