-- `point_frames::tally::count_job` meets its contract: the counter at the job's offset is one more. Assumes nothing.
use mathlib.Core.Path.{refl}
use Rattle.point_frames.proofs.Counts.{job_room, job_stored}
use Rattle.point_frames.proofs.tally.count_job.Goals as goal

pub overflow_add-jobs : goal.overflow_add-jobs
overflow_add-jobs c =
    let p = c.requires in
    let r = job_room _ _ _ p.0 p.1 in
    rw c.offset-a.ensures.0 (record { fits = r })

pub returns : goal.returns
returns c =
    let p = c.requires in
    job_stored _ _ p.1.long p.0 (rw c.offset-a.ensures.0 refl)
