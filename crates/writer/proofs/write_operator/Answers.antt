-- `writer::write_operator` meets its contract, by the laws of Operators. Assumes nothing.
use mathlib.Core.Path.{refl}
use native.Mathlib.Omega.{arith}
use Rattle.bits.proofs.Reading.{got_as}
use Rattle.reader.proofs.Reading.{got, ran_out}
use Rattle.writer.proofs.Puts.{put_both}
use Rattle.writer.proofs.Operators.{operator_out, operator_refused, operator_read}
use Rattle.writer.proofs.write_operator.Goals as goal

pub returns-in_default : goal.returns-in_default
returns-in_default c = (operator_out _ _ _ _ _ _ _ (ran_out c.field.ensures c.in_default.is), omega arith)

pub low_byte-arity-requires : goal.low_byte-arity-requires
low_byte-arity-requires c = let s = (got c.field.ensures c.in-Ok.is).small in omega arith

pub read_strategy-requires : goal.read_strategy-requires
read_strategy-requires c =
    let s = (got c.field.ensures c.in-Ok.is).small in
    (omega arith, omega arith, refl)

pub emit-q-requires : goal.emit-q-requires
emit-q-requires c =
    (omega arith, (got c.field.ensures c.in-Ok.is).small, omega arith)

pub write_strategy-requires : goal.write_strategy-requires
write_strategy-requires c =
    let g = (got c.field.ensures c.in-Ok.is).small in
    let s = rw c.in-Ok-read_strategy.is at c.read_strategy.ensures in
    (omega arith, s.long, s.settled.0, omega arith)

pub returns-in_default-read_strategy : goal.returns-in_default-read_strategy
returns-in_default-read_strategy c = (
  operator_refused _ _ _ _ _ _ _ _ _ (got_as (got c.field.ensures c.in-Ok.is) c.low_byte-arity.ensures) _ _
      (rw c.in_default-read_strategy.is at c.read_strategy.ensures),
  omega arith,
)

pub returns : goal.returns
returns c =
    let w = c.write_strategy.ensures in
    let e = c.emit-q.ensures in (
      operator_read _ _ _ _ _ _ _ _ _ (got_as (got c.field.ensures c.in-Ok.is) c.low_byte-arity.ensures) _ _ _
          (rw c.in-Ok-read_strategy.is at c.read_strategy.ensures) refl c.low_byte-arity.ensures
          (put_both e.0 w.0),
      omega (arith, w.1, e.1),
    )
