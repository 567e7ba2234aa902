-- `point_order::job_waits` meets its contract. Assumes nothing.
use Rattle.point_order.proofs.Waiting.{job_new, job_free, job_joins}
use Rattle.point_order.proofs.job_waits.Goals as goal

pub returns-then-job-eq0 : goal.returns-then-job-eq0
returns-then-job-eq0 c = job_new c.if-job-eq0.true

pub returns-then-job-eq0-2 : goal.returns-then-job-eq0-2
returns-then-job-eq0-2 c = job_free c.if-job-eq0-2.true

pub is_join-requires : goal.is_join-requires
is_join-requires c =
    let p = c.requires in
    rw c.operator_of-o.ensures (p.rowed _)

pub returns : goal.returns
returns c =
    job_joins c.operator_of-o.result c.offset.result c.offset.ensures.0 c.operator_of-o.ensures c.if-job-eq0.false c.if-job-eq0-2.false
    c.is_join.ensures
