-- `entry::carry_out` meets its contract: order 0 of a job is its VISIT, any other a step. Assumes nothing.
use native.Mathlib.Omega.{arith}
use borrow.Author.Rules.{rules}
use Rattle.entry.proofs.Orders.{visit_asks, visited}
use Rattle.entry.proofs.carry_out.Goals as goal

pub visit-requires : goal.visit-requires
visit-requires c =
    let q = c.requires in
    let t = q.running in
    let v = visit_asks q.arrays t.0 t.1 t.2 in
    (rw t.3 v.0, v.1, v.2, v.3, t.3)

pub returns-then-task-eq0 : goal.returns-then-task-eq0
returns-then-task-eq0 c =
    let q = c.requires in
    let t = q.running in
    let r = visited q.arrays t.0 t.1 t.2 c.if-task-eq0.true c.visit.ensures in
    record { l_after = r.0; arrays_2 = r.1; over = search rules }

pub step-requires : goal.step-requires
step-requires c =
    let q = c.requires in
    record { arrays = q.arrays; running = q.running; le_next = omega (arith, c.if-task-eq0.false) }
