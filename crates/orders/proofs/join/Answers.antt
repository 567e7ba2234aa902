-- `orders::join` meets its contract: at count 0 the job goes on, otherwise the unit is idle. Assumes nothing.
use native.Mathlib.Omega.{arith}
use Rattle.orders.proofs.Changes.{join_passes, join_waits}
use Rattle.orders.proofs.join.Goals as goal

pub advance-requires : goal.advance-requires
advance-requires c =
    let q = c.requires.1 in
    record { top = q.top; offset = q.offset; next = q.next; count = omega (arith, c.next_count-count.ensures.few) }

pub returns-then-job-eq0 : goal.returns-then-job-eq0
returns-then-job-eq0 c =
    join_passes c.if-job-eq0.true c.next_count-count.ensures c.advance.ensures

pub returns-else-job-eq0 : goal.returns-else-job-eq0
returns-else-job-eq0 c =
    join_waits c.requires.1.top.fit c.if-job-eq0.false c.wait_unit.ensures
