-- Answers of `try_rules`. Assumes nothing.
use mathlib.Core.Logic.{inl, inr}
use mathlib.Core.Path.{refl}
use native.Mathlib.Omega.{arith}
use Rattle.lookup.proofs.Rules.{ready, reached_first, reached_below, reached_found, reached_next, reached_end}
use Rattle.lookup.proofs.try_rules.Goals as goal

pub loop-next-init : goal.loop-next-init
loop-next-init c = let p = c.requires in reached_first p.0 p.1 p.2

pub returns-then-limit-rule : goal.returns-then-limit-rule
returns-then-limit-rule c =
    let p = c.requires in
    reached_end p.0 p.1 p.2 _ _ (rw c.in-Some.is at c.loop-next.invariant) (inr (omega (arith, c.if-limit-rule.true)))

pub left_side-left-requires : goal.left_side-left-requires
left_side-left-requires c =
    let p = c.requires in
    ((ready p.0).is.long, reached_below p.0 p.1 p.2 _ (rw c.in-Some.is at c.loop-next.invariant))

pub returns-in-Some-match_left : goal.returns-in-Some-match_left
returns-in-Some-match_left c =
    let p = c.requires in
    reached_found p.0 p.1 p.2 _ (rw c.in-Some.is at c.loop-next.invariant) _ _ c.left_side-left.ensures.0 _ _
    (omega (arith, c.if-limit-rule.false)) c.in-Some-match_left.ensures

pub same-next-requires : goal.same-next-requires
same-next-requires c =
    let p = c.requires in
    ((ready p.0).is.long, reached_below p.0 p.1 p.2 _ (rw c.in-Some.is at c.loop-next.invariant))

pub loop-next-smaller : goal.loop-next-smaller
loop-next-smaller c =
    let p = c.requires in
    rw c.in-Some.is
    (reached_next p.0 p.1 p.2 _ (rw c.in-Some.is at c.loop-next.invariant) _ _ c.left_side-left.ensures.0 _
    c.in_default-match_left.ensures c.same-next.ensures.0).1

pub loop-next-preserved : goal.loop-next-preserved
loop-next-preserved c =
    let p = c.requires in
    (reached_next p.0 p.1 p.2 _ (rw c.in-Some.is at c.loop-next.invariant) _ _ c.left_side-left.ensures.0 _
    c.in_default-match_left.ensures c.same-next.ensures.0).0

pub returns : goal.returns
returns c =
    let p = c.requires in
    reached_end p.0 p.1 p.2 _ _ (rw c.in_default.is at c.loop-next.invariant) (inl refl)
