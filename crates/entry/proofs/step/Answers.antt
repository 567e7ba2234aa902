-- `entry::step` meets its contract: the step that the table has says which order it is. Assumes nothing.
use native.Mathlib.Omega.{arith}
use borrow.Author.Rules.{rules}
use Rattle.orders.proofs.Changes.{argument_asks}
use Rattle.entry.proofs.Facts.{next_most, rowed, can_proceed, whole_there}
use Rattle.entry.proofs.Orders.{visit_place, visit_argument_asks, visited_argument, joined}
use Rattle.entry.proofs.Forking.{fork_place, fork_asks, fork_places, fork_entered}
use Rattle.entry.proofs.step.Goals as goal

pub step_at-requires : goal.step_at-requires
step_at-requires c =
    let q = c.requires in
    let t = q.running in
    omega (arith, next_most q.arrays t.0 t.1 t.2)

pub visit_argument-requires : goal.visit_argument-requires
visit_argument-requires c =
    let q = c.requires in
    let t = q.running in
    let e = rw (c.in-Visit.is, t.3) at c.step_at.ensures in
    (visit_place q.arrays t.0 t.1 t.2 q.le_next e, visit_argument_asks q.arrays t.0 t.1 t.2 q.le_next e)

pub argument-b-requires : goal.argument-b-requires
argument-b-requires c =
    let q = c.requires in
    let t = q.running in
    let e = rw (c.in-Fork.is, t.3) at c.step_at.ensures in
    argument_asks (fork_place q.arrays t.0 t.1 t.2 q.le_next e).place

pub fork-got-requires : goal.fork-got-requires
fork-got-requires c =
    let q = c.requires in
    let t = q.running in
    let e = rw (c.in-Fork.is, t.3) at c.step_at.ensures in
    fork_asks q.arrays t.0 t.1 t.2 q.le_next e c.argument-b.ensures.0 c.argument-b.ensures.1

pub forked-requires : goal.forked-requires
forked-requires c =
    let q = c.requires in
    let t = q.running in
    let e = rw (c.in-Fork.is, t.3) at c.step_at.ensures in
    (search rules, fork_places q.arrays t.0 t.1 t.2 q.le_next e c.fork-got.result c.fork-got.ensures)

pub join-requires : goal.join-requires
join-requires c =
    let q = c.requires in
    let t = q.running in
    rw t.3 (rowed q.arrays t.0 t.1 t.2, can_proceed q.arrays t.0 t.1 t.2, q.arrays.few)

pub rewrite-requires : goal.rewrite-requires
rewrite-requires c =
    let q = c.requires in
    let t = q.running in
    let e = rw t.3 at c.step_at.ensures in
    record {
      arrays = q.arrays;
      running = t;
      next = record {
        one = q.le_next;
        is = whole_there q.arrays t.0 t.1 t.2 q.le_next c.step_at.result e c.in_default.not-Visit c.in_default.not-Fork c.in_default.not-Join;
      };
    }

pub returns-in-Visit : goal.returns-in-Visit
returns-in-Visit c =
    let q = c.requires in
    let t = q.running in
    let e = rw (c.in-Visit.is, t.3) at c.step_at.ensures in
    let r = visited_argument q.arrays t.0 t.1 t.2 q.le_next e c.visit_argument.ensures in
    record { l_after = r.0; arrays_2 = r.1; over = search rules }

pub returns-in-Fork : goal.returns-in-Fork
returns-in-Fork c =
    let q = c.requires in
    let t = q.running in
    let e = rw (c.in-Fork.is, t.3) at c.step_at.ensures in
    let r = fork_entered q.arrays t.0 t.1 t.2 q.le_next e c.argument-b.ensures.0 c.fork-got.ensures _ c.forked.ensures in
    record { l_after = r.0; arrays_2 = r.1; over = search rules }

pub returns-in-Join : goal.returns-in-Join
returns-in-Join c =
    let q = c.requires in
    let t = q.running in
    let r = joined q.arrays t.0 t.1 t.2 q.le_next (rw (c.in-Join.is, t.3) at c.step_at.ensures)
    (rw t.3 at c.join.ensures) in
    record { l_after = r.0; arrays_2 = r.1; over = search rules }
