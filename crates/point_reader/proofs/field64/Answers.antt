-- `point_reader::field64` meets its contract: two fields of 32 bits are one of 64. Assumes nothing.
use native.Mathlib.Omega.{arith}
use Rattle.point_reader.proofs.Fields.{told, untold, number_both, number_first, number_second}
use Rattle.point_reader.proofs.field64.Goals as goal

pub returns-in_err-high : goal.returns-in_err-high
returns-in_err-high c = rw c.from_residual.ensures (number_first 32 32 (untold c.field32.ensures c.in_err-high.was))

pub returns-in_err-low : goal.returns-in_err-low
returns-in_err-low c =
    rw c.from_residual-in_err-low.ensures
    (number_second 32 32 (told c.field32.ensures c.in_ok-high.was) (untold c.field32-2.ensures c.in_err-low.was))

pub overflow_mul-result : goal.overflow_mul-result
overflow_mul-result c = omega (arith, (told c.field32.ensures c.in_ok-high.was).small)

pub overflow_add-result : goal.overflow_add-result
overflow_add-result c =
    omega (arith, (told c.field32.ensures c.in_ok-high.was).small, (told c.field32-2.ensures c.in_ok-low.was).small)

pub returns : goal.returns
returns c = number_both 32 32 (told c.field32.ensures c.in_ok-high.was) (told c.field32-2.ensures c.in_ok-low.was) _ (omega arith)
