-- `book::read_tail` meets its contract, by the laws of Parts. Assumes nothing.
use native.Mathlib.Omega.{arith}
use Rattle.bits.proofs.Reading.{got_as}
use Rattle.refusal.proofs.Passing.{passed_up}
use Rattle.reader.proofs.Reading.{got, ran_out}
use Rattle.book.proofs.Parts.{tail_out, tail_refused, tail_ends, tail_goes_on}
use Rattle.book.proofs.read_tail.Goals as goal

pub returns-in_err-count : goal.returns-in_err-count
returns-in_err-count c =
    rw (passed_up c.from_residual.result c.from_residual.ensures.1)
    (tail_out (ran_out c.field.ensures c.in_err-count.was))

pub read_rules-requires : goal.read_rules-requires
read_rules-requires c =
    let s = (got c.field.ensures c.in_ok-count.was).small in
    (omega arith, omega arith)

pub returns-in_err-end : goal.returns-in_err-end
returns-in_err-end c =
    rw (passed_up c.from_residual-in_err-end.result c.from_residual-in_err-end.ensures.1)
    (tail_refused (got_as (got c.field.ensures c.in_ok-count.was) c.offset-m.ensures.0) c.in_err-end.ensures)

pub returns-then-ends : goal.returns-then-ends
returns-then-ends c =
    tail_ends (got_as (got c.field.ensures c.in_ok-count.was) c.offset-m.ensures.0) c.in_ok-end.ensures c.ends.ensures c.if-ends.true

pub returns-else-ends : goal.returns-else-ends
returns-else-ends c =
    tail_goes_on (got_as (got c.field.ensures c.in_ok-count.was) c.offset-m.ensures.0) c.in_ok-end.ensures c.ends.ensures c.if-ends.false
