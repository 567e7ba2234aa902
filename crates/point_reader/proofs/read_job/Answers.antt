-- `point_reader::read_job` meets its contract, field by field. Assumes nothing.
use native.Mathlib.Omega.{arith}
use Rattle.bits.proofs.Reading.{got, ran_out}
use Rattle.point_reader.proofs.Frames.{offset_out, next_out, count_out, job_read}
use Rattle.point_reader.proofs.read_job.Goals as goal

pub returns-in_err-offset : goal.returns-in_err-offset
returns-in_err-offset c = rw c.from_residual.ensures (offset_out (ran_out c.field.ensures c.in_err-offset.was))

pub returns-in_err-next : goal.returns-in_err-next
returns-in_err-next c =
    rw c.from_residual-in_err-next.ensures (next_out (got c.field.ensures c.in_ok-offset.was) (ran_out c.field-2.ensures c.in_err-next.was))

pub returns-in_err-count : goal.returns-in_err-count
returns-in_err-count c =
    rw c.from_residual-in_err-count.ensures
    (count_out (got c.field.ensures c.in_ok-offset.was) (got c.field-2.ensures c.in_ok-next.was) (ran_out c.field-3.ensures c.in_err-count.was))

pub overflow_cast-result : goal.overflow_cast-result
overflow_cast-result c = record { fits = omega (arith, (got c.field-2.ensures c.in_ok-next.was).small) }

pub overflow_cast-result-2 : goal.overflow_cast-result-2
overflow_cast-result-2 c = record { fits = omega (arith, (got c.field-3.ensures c.in_ok-count.was).small) }

pub returns : goal.returns
returns c =
    job_read (got c.field.ensures c.in_ok-offset.was) (got c.field-2.ensures c.in_ok-next.was) (got c.field-3.ensures c.in_ok-count.was)
