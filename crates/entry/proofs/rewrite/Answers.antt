-- `entry::rewrite` meets its contract, by the laws of Rewriting. Assumes nothing.
use mathlib.Core.Path.{refl}
use native.Mathlib.Omega.{arith}
use borrow.Author.Rules.{rules}
use Rattle.entry.proofs.Rewriting.{whole_present, whole_operator, units_due, proceed_asks, mark_asks, rewrites_left, whole_rewrote, whole_spent, whole_full, whole_missed}
use Rattle.entry.proofs.rewrite.Goals as goal

pub rewrite-requires : goal.rewrite-requires
rewrite-requires c =
    let q = c.requires in
    let e = c.from-a.ensures in
    let t = q.running in (
      whole_present q.arrays t.0 t.1 t.2 q.next refl e t.3,
      q.arrays.scratch_long,
      units_due q.arrays t.0 t.1 t.2 q.next refl e t.3,
      whole_operator q.arrays t.0 t.1 t.2 q.next refl e t.3,
    )

pub proceed-requires : goal.proceed-requires
proceed-requires c =
    let q = c.requires in
    let e = c.from-a.ensures in
    let t = q.running in
    rw t.3 (proceed_asks q.arrays t.0 t.1 t.2 q.next refl e t.3 (rw c.in-Missed.is at c.rewrite.ensures).0)

pub mark_last-requires : goal.mark_last-requires
mark_last-requires c =
    let q = c.requires in
    let e = c.from-a.ensures in
    let t = q.running in
    rw t.3 (mark_asks q.arrays t.0 t.1 t.2 q.next refl e t.3 (rw c.in-Missed.is at c.rewrite.ensures).0)

pub rewritten-requires : goal.rewritten-requires
rewritten-requires c =
    let q = c.requires in
    let e = c.from-a.ensures in
    let t = q.running in
    let h = rewrites_left q.arrays t.0 t.1 t.2 q.next refl e t.3 (rw c.in-Rewrote.is at c.rewrite.ensures).0 in
    omega (arith, h, t.1.small)

pub returns-in-Missed : goal.returns-in-Missed
returns-in-Missed c =
    let q = c.requires in
    let e = c.from-a.ensures in
    let t = q.running in
    let d = rw c.in-Missed.is at c.rewrite.ensures in
    let r = whole_missed q.arrays t.0 t.1 t.2 q.next refl e t.3 d.0 _ d.1 (rw t.3 at c.proceed.ensures) (rw t.3 at c.mark_last.ensures) in
    record { l_after = r.0; arrays_2 = r.1; over = search rules }

pub returns-in-Rewrote : goal.returns-in-Rewrote
returns-in-Rewrote c =
    let q = c.requires in
    let e = c.from-a.ensures in
    let t = q.running in
    let d = rw c.in-Rewrote.is at c.rewrite.ensures in
    let r = whole_rewrote q.arrays t.0 t.1 t.2 q.next refl e t.3 d.0 _ d.1 _ c.rewritten.ensures in
    record { l_after = r.0; arrays_2 = r.1; over = search rules }

pub returns-in-Spent : goal.returns-in-Spent
returns-in-Spent c =
    let q = c.requires in
    let e = c.from-a.ensures in
    let t = q.running in
    let d = rw c.in-Spent.is at c.rewrite.ensures in
    let r = whole_spent q.arrays t.0 t.1 t.2 q.next refl e t.3 _ d.1 d.0 in
    record { l_after = r.0; arrays_2 = r.1; over = search rules }

pub returns-in-Full : goal.returns-in-Full
returns-in-Full c =
    let q = c.requires in
    let e = c.from-a.ensures in
    let t = q.running in
    let d = rw c.in-Full.is at c.rewrite.ensures in
    let r = whole_full q.arrays t.0 t.1 t.2 q.next refl e t.3 _ d.1 d.0 in
    record { l_after = r.0; arrays_2 = r.1; over = search rules }
