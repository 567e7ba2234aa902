-- `book::read_book` meets its contract, by the laws of Parts. Assumes nothing.
use native.Mathlib.Omega.{arith}
use Rattle.bits.proofs.Reading.{got_as}
use Rattle.refusal.proofs.Passing.{passed_up}
use Rattle.reader.proofs.Reading.{got, ran_out}
use Rattle.book.proofs.Parts.{count_out, count_zero, operators_refused, tail_refuses, all_read, kept_few, book_is}
use Rattle.book.proofs.read_book.Goals as goal

pub returns-in_err-count : goal.returns-in_err-count
returns-in_err-count c =
    rw (passed_up c.from_residual.result c.from_residual.ensures.1)
    (count_out _ c.is_dated-dated.ensures c.start.ensures (ran_out c.field.ensures c.in_err-count.was))

pub returns-then-n-eq0 : goal.returns-then-n-eq0
returns-then-n-eq0 c =
    count_zero _ c.is_dated-dated.ensures c.start.ensures
    (got_as (got c.field.ensures c.in_ok-count.was) c.offset-n.ensures.0) c.if-n-eq0.true

pub read_operators-requires : goal.read_operators-requires
read_operators-requires c =
    let s = (got c.field.ensures c.in_ok-count.was).small in
    (omega arith, omega arith, c.requires.1)

pub keep_standing-k-requires : goal.keep_standing-k-requires
keep_standing-k-requires c = (
  c.requires.0,
  all_read _ c.is_dated-dated.ensures c.start.ensures
      (got_as (got c.field.ensures c.in_ok-count.was) c.offset-n.ensures.0) c.if-n-eq0.false
      c.in_ok-next.ensures c.in_ok-m.ensures c.put_day.ensures,
)

pub put_count-requires : goal.put_count-requires
put_count-requires c = kept_few c.keep_standing-k.ensures

pub returns-in_err-next : goal.returns-in_err-next
returns-in_err-next c =
    rw (passed_up c.from_residual-in_err-next.result c.from_residual-in_err-next.ensures.1)
    (operators_refused _ c.is_dated-dated.ensures c.start.ensures
    (got_as (got c.field.ensures c.in_ok-count.was) c.offset-n.ensures.0) c.if-n-eq0.false c.in_err-next.ensures)

pub returns-in_err-m : goal.returns-in_err-m
returns-in_err-m c =
    rw (passed_up c.from_residual-in_err-m.result c.from_residual-in_err-m.ensures.1)
    (tail_refuses _ c.is_dated-dated.ensures c.start.ensures
    (got_as (got c.field.ensures c.in_ok-count.was) c.offset-n.ensures.0) c.if-n-eq0.false c.in_ok-next.ensures c.in_err-m.ensures)

pub returns : goal.returns
returns c =
    book_is _ c.is_dated-dated.ensures c.start.ensures
    (got_as (got c.field.ensures c.in_ok-count.was) c.offset-n.ensures.0) c.if-n-eq0.false
    c.in_ok-next.ensures c.in_ok-m.ensures c.keep_standing-k.ensures c.put_count.ensures
