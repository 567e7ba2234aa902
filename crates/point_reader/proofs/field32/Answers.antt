-- `point_reader::field32` meets its contract: two fields of 16 bits are one of 32. Assumes nothing.
use native.Mathlib.Omega.{arith}
use Rattle.bits.proofs.Reading.{got, ran_out}
use Rattle.point_reader.proofs.Fields.{got_told, number_both, number_first, number_second}
use Rattle.point_reader.proofs.field32.Goals as goal

pub returns-in_err-high : goal.returns-in_err-high
returns-in_err-high c = rw c.from_residual.ensures (number_first 16 16 (ran_out c.field.ensures c.in_err-high.was))

pub returns-in_err-low : goal.returns-in_err-low
returns-in_err-low c =
    rw c.from_residual-in_err-low.ensures
    (number_second 16 16 (got_told (got c.field.ensures c.in_ok-high.was)) (ran_out c.field-2.ensures c.in_err-low.was))

pub returns : goal.returns
returns c =
    number_both 16 16 (got_told (got c.field.ensures c.in_ok-high.was)) (got_told (got c.field-2.ensures c.in_ok-low.was)) _
    (omega (arith, c.from.ensures, c.from-2.ensures))
