-- `point_frames::job_good` meets its contract: by the job's next order and the steps left. Assumes nothing.
use borrow.Author.Tests.{not-true, not-false}
use Rattle.point_frames.proofs.Tests.{job_visit, job_none, job_group, job_whole}
use Rattle.point_frames.proofs.job_good.Goals as goal

pub returns-then-job-eq0 : goal.returns-then-job-eq0
returns-then-job-eq0 c = job_visit _ _ _ c.if-job-eq0.true

pub returns-then-not-r : goal.returns-then-not-r
returns-then-not-r c = job_none _ _ _ c.if-job-eq0.false (not-true _ c.if-not-r.true)

pub returns-then-r : goal.returns-then-r
returns-then-r c =
    job_group _ _ _ c.if-job-eq0.false (not-false _ c.if-not-r.false) c.if-r.true

pub returns : goal.returns
returns c =
    job_whole _ _ _ c.if-job-eq0.false (not-false _ c.if-not-r.false) c.if-r.false
