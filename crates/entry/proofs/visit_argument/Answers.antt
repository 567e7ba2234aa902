-- `entry::visit_argument` meets its contract: the argument is found by the sizes, and its mark and its operator are read. Assumes nothing.
use mathlib.Core.Path.{sym, ◌∙◌}
use native.Mathlib.Omega.{arith}
use Rattle.orders.proofs.Changes.{argument_asks, argument_row}
use Rattle.entry.proofs.Marks.{argument_there, argument_dropped, can_visit, argument_entered}
use Rattle.entry.proofs.visit_argument.Goals as goal

pub argument-b-requires : goal.argument-b-requires
argument-b-requires c = argument_asks c.requires.0.place

pub is_marked_at-requires : goal.is_marked_at-requires
is_marked_at-requires c = omega (arith, c.from-at.ensures, c.argument-b.ensures.1)

pub returns-then-is_marked_at : goal.returns-then-is_marked_at
returns-then-is_marked_at c =
    argument_dropped c.requires.0.place c.argument-b.ensures.0 c.from-at.ensures
    (sym c.is_marked_at.ensures ∙ c.if-is_marked_at.true) c.advance.ensures

pub operator_at-p-requires : goal.operator_at-p-requires
operator_at-p-requires c =
    omega (arith, c.from-at.ensures, c.argument-b.ensures.1)

pub visit_argument-requires : goal.visit_argument-requires
visit_argument-requires c =
    let q = c.requires in
    let p = q.0.place in
    let eb = c.argument-b.ensures in
    let ek = c.from-at.ensures in
    let e = c.operator_at-p.ensures in (
      argument_row p eb.0 ek e q.0.rowed,
      eb.1,
      can_visit p eb.0 ek (sym c.is_marked_at.ensures ∙ c.if-is_marked_at.false) e q.1,
    )

pub mark_last-requires : goal.mark_last-requires
mark_last-requires c =
    let q = c.requires in
    let p = q.0.place in
    let eb = c.argument-b.ensures in
    let ek = c.from-at.ensures in
    (omega arith, argument_row p eb.0 ek c.operator_at-p.ensures q.0.rowed, argument_there p eb.0 ek, p.sized.most)

pub returns : goal.returns
returns c =
    argument_entered c.requires.0.place c.argument-b.ensures.0 c.from-at.ensures
    (sym c.is_marked_at.ensures ∙ c.if-is_marked_at.false) c.operator_at-p.ensures c.visit_argument.ensures c.mark_last.ensures
