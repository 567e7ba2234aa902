-- `entry::visit` meets its contract: the frame goes if the term is marked. Assumes nothing.
use mathlib.Core.Path.{sym, ◌∙◌}
use native.Mathlib.Omega.{arith}
use Rattle.entry.proofs.Marks.{visit_dropped, visit_entered}
use Rattle.entry.proofs.visit.Goals as goal

pub is_marked_at-requires : goal.is_marked_at-requires
is_marked_at-requires c =
    let p = c.requires in
    omega (arith, p.2, p.3, c.from-a.ensures)

pub drop_top-requires : goal.drop_top-requires
drop_top-requires c =
    let p = c.requires in
    (p.1.unit, p.1.index)

pub returns-then-is_marked_at : goal.returns-then-is_marked_at
returns-then-is_marked_at c =
    let p = c.requires in
    visit_dropped _ _ p.2 (sym (rw c.from-a.ensures at c.is_marked_at.ensures) ∙ c.if-is_marked_at.true) (c.drop_top.ensures.change _ p.1.fit)

pub visit-requires : goal.visit-requires
visit-requires c =
    let p = c.requires in
    (p.0, p.1, omega (arith, p.2, p.3))

pub mark_last-requires : goal.mark_last-requires
mark_last-requires c =
    let p = c.requires in
    (omega arith, p.0, omega (arith, p.2, c.from-a.ensures), p.3)

pub returns : goal.returns
returns c =
    let p = c.requires in
    let e = c.from-a.ensures in
    visit_entered _ _ p.2 (sym (rw e at c.is_marked_at.ensures) ∙ c.if-is_marked_at.false) p.4 c.visit.ensures (rw e at c.mark_last.ensures)
