-- `point_frames::left` meets its contract: those of a job, none of any other frame. Assumes nothing.
use Rattle.units.specs.Frames.{flat}
use Rattle.point_frames.proofs.Tests.{not_job, left_other}
use Rattle.point_frames.proofs.left.Goals as goal

pub job_left-requires : goal.job_left-requires
job_left-requires c = rw c.in-Job.is at c.requires

pub returns-in-Job : goal.returns-in-Job
returns-in-Job c = rw c.in-Job.is c.job_left.ensures

pub returns-in_default : goal.returns-in_default
returns-in_default c =
    left_other (flat c.args.f) (not_job c.args.f c.in_default.not-Job) c.none.ensures
