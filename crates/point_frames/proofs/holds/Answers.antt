-- `point_frames::holds` meets its contract: by the frame below. Assumes nothing.
use borrow.Author.Tests.{not-true, not-false}
use Rattle.point_frames.proofs.Standing.{holds_not, holds_join, holds_sleep, holds_other}
use Rattle.point_frames.proofs.holds.Goals as goal

pub job_left-r-requires : goal.job_left-r-requires
job_left-r-requires c = rw c.in-Job.is at c.requires

pub returns-then-not-r : goal.returns-then-not-r
returns-then-not-r c =
    rw c.in-Job.is (holds_not _ _ _ c.job_left-r.ensures (not-true _ c.if-not-r.true))

pub returns-else-not-r : goal.returns-else-not-r
returns-else-not-r c =
    rw c.in-Job.is (holds_join _ _ _ c.job_left-r.ensures (not-false _ c.if-not-r.false))

pub returns-in-Sleep : goal.returns-in-Sleep
returns-in-Sleep c = rw c.in-Sleep.is holds_sleep

pub returns-in_default : goal.returns-in_default
returns-in_default c = holds_other c.args.f c.in_default.not-Job c.in_default.not-Sleep
