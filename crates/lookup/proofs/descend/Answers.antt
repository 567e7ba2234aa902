-- Answers of `descend`. Assumes nothing.
use mathlib.Core.Logic.{inl, inr}
use native.Mathlib.Omega.{arith}
use Rattle.lookup.proofs.Nodes.{down_start, down_late, before_end, behind_end, size_requires, end_fits, rule_fits, small, part_inside, down_choice, down_lost, down_on, down_leaf}
use Rattle.lookup.proofs.descend.Goals as goal

pub size_at-requires : goal.size_at-requires
size_at-requires c = size_requires c.requires.0

pub overflow_add-end : goal.overflow_add-end
overflow_add-end c = omega (arith, end_fits c.requires.0, c.size_at.ensures)

pub loop-s-init : goal.loop-s-init
loop-s-init c = down_start c.requires.1

pub last-requires : goal.last-requires
last-requires c = let R = c.requires.0 in (R.is.long, rule_fits R c.loop-s.invariant.node)

pub overflow_add-s : goal.overflow_add-s
overflow_add-s c =
    omega (arith, rule_fits c.requires.0 c.loop-s.invariant.node)

-- a branch whose first rule isn't before the best
pub returns-then-best-s : goal.returns-then-best-s
returns-then-best-s c =
    down_late c.requires.0 _ c.loop-s.invariant c.if-best-s.true

pub choice-requires : goal.choice-requires
choice-requires c =
    let R = c.requires.0 in
    (R.is.long, rule_fits R c.loop-s.invariant.node)

pub returns-then-s-choice : goal.returns-then-s-choice
returns-then-s-choice c =
    let R = c.requires.0 in
    down_choice R c.loop-s.invariant (before_end _ _ _ _ c.if-s-end.true c.size_at.ensures)
    c.args.best

pub key-own-requires : goal.key-own-requires
key-own-requires c =
    let R = c.requires.0 in
    (R.short, small R c.loop-s.invariant.node (before_end _ _ _ _ c.if-s-end.true c.size_at.ensures))

pub go_on-requires : goal.go_on-requires
go_on-requires c =
    let R = c.requires.0 in
    let n = c.loop-s.invariant.node in
    (small R n (before_end _ _ _ _ c.if-s-end.true c.size_at.ensures), part_inside R n (before_end _ _ _ _ c.if-s-end.true c.size_at.ensures))

pub returns-in_default : goal.returns-in_default
returns-in_default c =
    let R = c.requires.0 in
    down_lost R c.loop-s.invariant (before_end _ _ _ _ c.if-s-end.true c.size_at.ensures) _ c.key-own.ensures (omega (arith, c.if-s-choice.false, c.choice.ensures.0)) _
    (rw c.in_default.is at c.go_on.ensures)

pub loop-s-smaller : goal.loop-s-smaller
loop-s-smaller c =
    let R = c.requires.0 in
    (down_on R c.loop-s.invariant (before_end _ _ _ _ c.if-s-end.true c.size_at.ensures) _ c.key-own.ensures (omega (arith, c.if-s-choice.false, c.choice.ensures.0)) _
    (rw c.in-Some.is at c.go_on.ensures)).1

pub loop-s-preserved : goal.loop-s-preserved
loop-s-preserved c =
    let R = c.requires.0 in
    (down_on R c.loop-s.invariant (before_end _ _ _ _ c.if-s-end.true c.size_at.ensures) _ c.key-own.ensures (omega (arith, c.if-s-choice.false, c.choice.ensures.0)) _
    (rw c.in-Some.is at c.go_on.ensures)).0

pub returns-else-s-end : goal.returns-else-s-end
returns-else-s-end c =
    let R = c.requires.0 in
    down_leaf R c.args.best c.loop-s.invariant (inr (behind_end _ _ _ _ c.if-s-end.false c.size_at.ensures))

pub returns-after-loop-s : goal.returns-after-loop-s
returns-after-loop-s c =
    let R = c.requires.0 in
    down_leaf R c.args.best c.loop-s.invariant (inl (omega (arith, c.loop-s-test.false, c.last.ensures.0)))
