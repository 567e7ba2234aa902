-- `point_reader::read_exit` meets its contract, field by field. Assumes nothing.
use native.Mathlib.Omega.{arith}
use Rattle.bits.proofs.Reading.{got, ran_out}
use Rattle.point_reader.proofs.Frames.{unit_out, index_out, exit_read}
use Rattle.point_reader.proofs.read_exit.Goals as goal

pub returns-in_err-unit : goal.returns-in_err-unit
returns-in_err-unit c = rw c.from_residual.ensures (unit_out (ran_out c.field.ensures c.in_err-unit.was))

pub returns-in_err-index : goal.returns-in_err-index
returns-in_err-index c =
    rw c.from_residual-in_err-index.ensures (index_out (got c.field.ensures c.in_ok-unit.was) (ran_out c.field-2.ensures c.in_err-index.was))

pub overflow_cast-result : goal.overflow_cast-result
overflow_cast-result c = record { fits = omega (arith, (got c.field.ensures c.in_ok-unit.was).small) }

pub returns : goal.returns
returns c = exit_read (got c.field.ensures c.in_ok-unit.was) (got c.field-2.ensures c.in_ok-index.was)
