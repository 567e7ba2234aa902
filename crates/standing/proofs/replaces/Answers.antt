-- `standing::replaces` meets its contract, by the laws of Rules. Assumes nothing.
use mathlib.Core.Path.{refl, sym, ◌∙◌}
use native.Mathlib.Omega.{arith}
use Rattle.standing.proofs.Rules.{number_small, left_before, day_is, replaces_early, replaces_late, replaces_alike}
use Rattle.standing.proofs.replaces.Goals as goal

pub left_side-requires : goal.left_side-requires
left_side-requires c = let p = c.requires in omega (arith, number_small p.0 _ p.2)

pub day_before-day-requires : goal.day_before-day-requires
day_before-day-requires c =
    let p = c.requires in
    (p.0.short, (left_before p.0 _ p.2 _ _ c.left_side.ensures.0 refl).2)

pub returns-then-day-first : goal.returns-then-day-first
returns-then-day-first c =
    let p = c.requires in
    let e = day_is p.0 _ p.2 _ _ c.left_side.ensures.0 c.day_before-day.ensures in
    replaces_early _ _ _ _ (rw e at c.if-day-first.true)

pub returns-then-last-day : goal.returns-then-last-day
returns-then-last-day c =
    let p = c.requires in
    let e = day_is p.0 _ p.2 _ _ c.left_side.ensures.0 c.day_before-day.ensures in
    replaces_late _ _ _ _ (omega (arith, e, c.if-day-first.false)) (omega (arith, e, c.if-last-day.true))

pub returns : goal.returns
returns c =
    let p = c.requires in
    let e = day_is p.0 _ p.2 _ _ c.left_side.ensures.0 c.day_before-day.ensures in
    c.alike.ensures ∙ sym (replaces_alike _ _ _ _ (omega (arith, e, c.if-day-first.false)) (omega (arith, e, c.if-last-day.false)))
