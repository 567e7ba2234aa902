-- `point_reader::read_frame` meets its contract, kind by kind. Assumes nothing.
use Rattle.bits.proofs.Reading.{got, ran_out}
use Rattle.point_reader.proofs.Frames.{kind_out, frame_job, frame_exit, frame_sleep, frame_bingo}
use native.Mathlib.Omega.{arith}
use Rattle.point_reader.proofs.read_frame.Goals as goal

pub returns-in_err-kind : goal.returns-in_err-kind
returns-in_err-kind c = rw c.from_residual.ensures (kind_out (ran_out c.field.ensures c.in_err-kind.was))

pub returns-in-0 : goal.returns-in-0
returns-in-0 c = frame_job (got c.field.ensures c.in_ok-kind.was) c.in-0.is c.read_job.ensures

pub returns-in-1 : goal.returns-in-1
returns-in-1 c = frame_exit (got c.field.ensures c.in_ok-kind.was) c.in-1.is c.read_exit.ensures

pub returns-in-2 : goal.returns-in-2
returns-in-2 c = frame_sleep (got c.field.ensures c.in_ok-kind.was) c.in-2.is

pub returns-in_default : goal.returns-in_default
returns-in_default c = frame_bingo (got c.field.ensures c.in_ok-kind.was) (λ e. omega arith) (λ e. omega arith) (λ e. omega arith)
