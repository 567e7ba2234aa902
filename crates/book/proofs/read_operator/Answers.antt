-- `book::read_operator` meets its contract, by the laws of Operators. Assumes nothing.
use mathlib.Core.Path.{refl}
use native.Mathlib.Omega.{arith}
use Rattle.bits.proofs.Reading.{got_as}
use Rattle.refusal.proofs.Passing.{passed_up}
use Rattle.reader.proofs.Reading.{got, ran_out}
use Rattle.book.proofs.Operators.{operator_out, operator_refused, operator_read}
use Rattle.book.proofs.read_operator.Goals as goal

pub returns-in_err-field : goal.returns-in_err-field
returns-in_err-field c =
    rw (passed_up c.from_residual.result c.from_residual.ensures.1)
    (operator_out (ran_out c.field.ensures c.in_err-field.was))

pub low_byte-arity-requires : goal.low_byte-arity-requires
low_byte-arity-requires c = let s = (got c.field.ensures c.in_ok-field.was).small in omega arith

pub read_strategy-requires : goal.read_strategy-requires
read_strategy-requires c =
    let s = (got c.field.ensures c.in_ok-field.was).small in
    (omega arith, omega arith, refl)

pub lay_out-requires : goal.lay_out-requires
lay_out-requires c =
    let s = c.in_ok-list.ensures in
    record { arity = _; settled = s.settled.1; short = s.settled.0; long = s.long; table = omega arith; operator = omega arith }

pub returns-in_err-list : goal.returns-in_err-list
returns-in_err-list c =
    rw (passed_up c.from_residual-in_err-list.result c.from_residual-in_err-list.ensures.1)
    (operator_refused (got_as (got c.field.ensures c.in_ok-field.was) c.low_byte-arity.ensures) c.in_err-list.ensures)

pub returns : goal.returns
returns c =
    operator_read (got_as (got c.field.ensures c.in_ok-field.was) c.low_byte-arity.ensures)
    c.in_ok-list.ensures c.lay_out.ensures (omega arith) c.put_arity.ensures
