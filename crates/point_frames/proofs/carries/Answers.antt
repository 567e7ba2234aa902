-- `point_frames::carries` meets its contract: by the frame below. Assumes nothing.
use mathlib.Core.Path.{subst}
use Rattle.term.specs.Present.{length_in}
use Rattle.units.specs.Frames.{flat}
use Rattle.units.specs.Stacks.{Below}
use Rattle.point_frames.proofs.Standing.{carries_job, carries_exit, carries_sleep, carries_bingo}
use Rattle.point_frames.proofs.carries.Goals as goal

pub job_takes-requires : goal.job_takes-requires
job_takes-requires c =
    (c.requires.0.term, rw c.in-Job.is at c.requires.1)

pub takes-requires : goal.takes-requires
takes-requires c =
    (c.requires.0.term, subst (Below (length_in c.args.symbols.now)) c.frame-g.ensures.0 (c.requires.0.inside.each _ _))

pub returns-in-Job : goal.returns-in-Job
returns-in-Job c = rw c.in-Job.is (carries_job _ _ _ _ c.job_takes.ensures)

pub returns-in-Exit : goal.returns-in-Exit
returns-in-Exit c =
    rw c.in-Exit.is
    (carries_exit _ _ _ _ _ (flat c.frame-g.result) c.index-w.ensures.0 c.offset.ensures.0 c.frame-g.ensures.0 c.takes.ensures)

pub returns-in-Sleep : goal.returns-in-Sleep
returns-in-Sleep c = rw c.in-Sleep.is (carries_sleep _)

pub returns-in-Bingo : goal.returns-in-Bingo
returns-in-Bingo c = rw c.in-Bingo.is (carries_bingo _)
