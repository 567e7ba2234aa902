-- `point_frames::takes` meets its contract: by the frame. Assumes nothing.
use Rattle.units.specs.Frames.{flat}
use Rattle.point_frames.proofs.Tests.{not_job}
use Rattle.point_frames.proofs.Arguments.{taken_other}
use Rattle.point_frames.proofs.takes.Goals as goal

pub job_takes-requires : goal.job_takes-requires
job_takes-requires c = rw c.in-Job.is at c.requires

pub returns-in-Job : goal.returns-in-Job
returns-in-Job c = rw c.in-Job.is c.job_takes.ensures

pub returns-in_default : goal.returns-in_default
returns-in_default c = let a = c.args in taken_other (flat a.f) a.a (not_job a.f c.in_default.not-Job)
