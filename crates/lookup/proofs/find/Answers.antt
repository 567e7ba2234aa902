-- Answers of `find`. Assumes nothing.
use mathlib.Core.Logic.{inl, inr}
use mathlib.Core.Path.{refl}
use native.Mathlib.Omega.{arith}
use borrow.Author.Tests.{not-true, not-false}
use Rattle.lookup.proofs.Rules.{ready}
use Rattle.lookup.proofs.Searching.{first_known, one_path, start_packable, search_start, turn_tells, turned, best_most, answered}
use Rattle.lookup.proofs.find.Goals as goal
use Rattle.lookup.proofs.find.Goals.{then-height-gt0, else-height-gt0+then-not-best}

pub last-requires : goal.last-requires
last-requires c = let p = c.requires in ((ready p.0).is.long, (first_known p.0 _ p.1).1)

pub try_rules-requires : goal.try_rules-requires
try_rules-requires c = let p = c.requires in let k = first_known p.0 _ p.1 in (p.0, k.0, k.2)

-- one path
pub returns-then-last-le1 : goal.returns-then-last-le1
returns-then-last-le1 c =
    let t = c.try_rules in
    let p = c.requires in
    (one_path p.0 _ p.1 (omega (arith, c.if-last-le1.true, c.last.ensures.0)) _ t.result t.ensures, p.2)

pub overflow_add-start : goal.overflow_add-start
overflow_add-start c = let p = c.requires.0 in let i = p.inside in let m = p.sized.most in omega arith

pub put-requires : goal.put-requires
put-requires c =
    let p = c.requires in
    (p.2, omega arith, start_packable p.0 _ p.1 c.args.stack.now p.2 _ refl refl refl refl)

pub loop-height-init : goal.loop-height-init
loop-height-init c = let p = c.requires in search_start p.0 _ p.1 _ p.2 _ refl refl refl refl _ _ c.put.ensures

pub next_turn-t-requires : goal.next_turn-t-requires
next_turn-t-requires c =
    let p = c.requires.0 in
    (ready p, c.loop-height.invariant.stacked, best_most p c.loop-height.invariant)

pub attempt-best-requires : goal.attempt-best-requires
attempt-best-requires c =
    let p = c.requires.0 in
    (p, turn_tells p _ _ _ _ _ _ c.loop-height.invariant (elim c.if-height-gt0.branch [ then-height-gt0 w ↦ inl w.if-height-gt0.true | else-height-gt0+then-not-best w ↦ inr (not-true _ w.if-not-best.true) ]) c.next_turn-t.ensures)

pub loop-height-smaller : goal.loop-height-smaller
loop-height-smaller c =
    let p = c.requires.0 in
    (turned p _ _ _ _ _ _ _ _ c.loop-height.invariant (elim c.if-height-gt0.branch [ then-height-gt0 w ↦ inl w.if-height-gt0.true | else-height-gt0+then-not-best w ↦ inr (not-true _ w.if-not-best.true) ]) c.next_turn-t.ensures c.attempt-best.ensures).1

pub loop-height-preserved : goal.loop-height-preserved
loop-height-preserved c =
    let p = c.requires.0 in
    (turned p _ _ _ _ _ _ _ _ c.loop-height.invariant (elim c.if-height-gt0.branch [ then-height-gt0 w ↦ inl w.if-height-gt0.true | else-height-gt0+then-not-best w ↦ inr (not-true _ w.if-not-best.true) ]) c.next_turn-t.ensures c.attempt-best.ensures).0

pub returns : goal.returns
returns c =
    let p = c.requires.0 in
    (answered p c.loop-height.invariant c.if-height-gt0.false (not-false _ c.if-not-best.false), c.loop-height.invariant.stacked.long)
