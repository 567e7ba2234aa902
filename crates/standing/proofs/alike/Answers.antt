-- Answers of `alike`. Assumes nothing.
use mathlib.Core.Path.{sym}
use native.Mathlib.Omega.{arith}
use Rattle.standing.proofs.Walk.{walk_ends, walk_small, walk_stops, walk_goes_on}
use Rattle.standing.proofs.Rules.{number_small, alike_starts}
use Rattle.standing.proofs.alike.Goals as goal

pub right_side-end-requires : goal.right_side-end-requires
right_side-end-requires c = let p = c.requires in omega (arith, number_small p.0 _ p.1)

pub left_side-at-requires : goal.left_side-at-requires
left_side-at-requires c = let p = c.requires in omega (arith, number_small p.0 _ p.1)

pub left_side-other-requires : goal.left_side-other-requires
left_side-other-requires c = let p = c.requires in omega (arith, number_small p.0 _ p.2)

pub loop-at-init : goal.loop-at-init
loop-at-init c =
    let p = c.requires in
    alike_starts p.0 p.1 p.2 p.3 c.right_side-end.ensures.0 c.left_side-at.ensures.0 c.left_side-other.ensures.0

pub compare-requires : goal.compare-requires
compare-requires c =
    let p = c.requires in
    let w = walk_small c.loop-at.invariant c.loop-at-test.true in
    let e = c.right_side-end.ensures.1 in
    (p.0.short, omega (arith, c.loop-at-test.true), omega (arith, p.0.short, w.1), omega (arith, w.0))

pub returns-in_default : goal.returns-in_default
returns-in_default c =
    sym (walk_stops c.loop-at.invariant c.loop-at-test.true c.compare.ensures c.in_default.is)

pub overflow_add-at : goal.overflow_add-at
overflow_add-at c =
    let g = walk_goes_on c.loop-at.invariant c.loop-at-test.true c.compare.ensures c.in-Some.is in
    omega (arith, g.1, c.loop-at-test.true)

pub overflow_add-other : goal.overflow_add-other
overflow_add-other c =
    let p = c.requires in
    let g = walk_goes_on c.loop-at.invariant c.loop-at-test.true c.compare.ensures c.in-Some.is in
    let w = walk_small c.loop-at.invariant c.loop-at-test.true in
    omega (arith, g.1, w.1, p.0.short)

pub loop-at-smaller : goal.loop-at-smaller
loop-at-smaller c =
    let g = walk_goes_on c.loop-at.invariant c.loop-at-test.true c.compare.ensures c.in-Some.is in
    omega (arith, g.2, c.loop-at-test.true)

pub loop-at-preserved : goal.loop-at-preserved
loop-at-preserved c =
    (walk_goes_on c.loop-at.invariant c.loop-at-test.true c.compare.ensures c.in-Some.is).0

pub returns : goal.returns
returns c = sym (walk_ends c.loop-at.invariant (omega (arith, c.loop-at-test.false)))
