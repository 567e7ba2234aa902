-- `point_writer::write_frame` meets its contract. Assumes nothing.
use native.Mathlib.Omega.{arith}
use Rattle.point_writer.proofs.Puts.{put_as}
use Rattle.point_writer.proofs.Fields.{sleep_bits, bingo_bits}
use borrow.Author.Rules.{rules}
use Rattle.point_writer.proofs.write_frame.Goals as goal

pub write_job-requires : goal.write_job-requires
write_job-requires c = (rw c.in-Job.is at c.requires.0, search rules)

pub write_exit-requires : goal.write_exit-requires
write_exit-requires c = (rw c.in-Exit.is at c.requires.0, search rules)

pub returns-in-Job : goal.returns-in-Job
returns-in-Job c = rw c.in-Job.is c.write_job.ensures

pub returns-in-Exit : goal.returns-in-Exit
returns-in-Exit c = rw c.in-Exit.is c.write_exit.ensures

pub returns-in-Sleep : goal.returns-in-Sleep
returns-in-Sleep c = let e = c.emit.ensures in rw c.in-Sleep.is (put_as sleep_bits e.0, omega (arith, e.1))

pub returns-in-Bingo : goal.returns-in-Bingo
returns-in-Bingo c = let e = c.emit-in-Bingo.ensures in rw c.in-Bingo.is (put_as bingo_bits e.0, omega (arith, e.1))
