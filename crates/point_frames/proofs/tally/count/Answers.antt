-- `point_frames::tally::count` meets its contract: by the frame. Assumes nothing.
use Rattle.point_frames.proofs.Counts.{exit_no_job, job_no_exit, neither, jobs_same, exits_same}
use Rattle.point_frames.proofs.tally.count.Goals as goal

pub count_job-requires : goal.count_job-requires
count_job-requires c =
    let h = rw c.in-Job.is at c.requires.heights in
    let r = rw c.in-Job.is at c.requires.jobs_room in
    (h.1.0, r.0)

pub count_exit-requires : goal.count_exit-requires
count_exit-requires c =
    let r = rw c.in-Exit.is at c.requires.jobs_room in
    (c.requires.heights.0, r.1)

pub returns-in-Job : goal.returns-in-Job
returns-in-Job c =
    rw c.in-Job.is (record { jobs_added = c.count_job.ensures; exits_added = exits_same (job_no_exit _ _ _) c.requires.jobs_room.1.long })

pub returns-in-Exit : goal.returns-in-Exit
returns-in-Exit c =
    rw c.in-Exit.is (record { jobs_added = jobs_same (exit_no_job _ _) c.requires.jobs_room.0.long; exits_added = c.count_exit.ensures })

pub returns-in_default : goal.returns-in_default
returns-in_default c =
    let (x, y) = neither c.args.f c.in_default.not-Job c.in_default.not-Exit in
    record { jobs_added = jobs_same x c.requires.jobs_room.0.long; exits_added = exits_same y c.requires.jobs_room.1.long }
