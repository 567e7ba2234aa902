-- Answers of `walk`. Assumes nothing.
use mathlib.Core.Path.{refl, sym}
use native.Mathlib.Omega.{arith}
use Rattle.insertion.proofs.Walks.{reached_first, behind_is, not_deep, reached_on, off_is}
use Rattle.insertion.proofs.walk.Goals as goal

pub left_side-left-requires : goal.left_side-left-requires
left_side-left-requires c = let R = c.requires.1 in let f = R.few in (R.is.long, omega arith)

pub loop-due-init : goal.loop-due-init
loop-due-init c = let p = c.requires in reached_first p.1 _ p.2 _ p.3

pub left_side-requires : goal.left_side-requires
left_side-requires c =
    let R = c.requires.1 in
    let f = R.few in
    let b = c.loop-due.invariant.gone.below in
    (R.is.long, omega arith)

pub overflow_add-left_side : goal.overflow_add-left_side
overflow_add-left_side c = let i = c.loop-due.invariant in let f = i.far in let d = i.depth in omega arith

pub read-own-requires : goal.read-own-requires
read-own-requires c = c.requires.0

pub overflow_add-left : goal.overflow_add-left
overflow_add-left c = let i = c.loop-due.invariant in let f = i.far in let d = i.depth in omega arith

pub read-new-requires : goal.read-new-requires
read-new-requires c = c.requires.0

pub follow-requires : goal.follow-requires
follow-requires c =
    let R = c.requires.1 in
    let f = R.few in
    let i = c.loop-due.invariant in
    let b = i.gone.below in
    let d = i.depth in
    (R.is.long, omega arith, omega arith, R.is.descends.chains)

pub returns-in_default : goal.returns-in_default
returns-in_default c =
    let p = c.requires in
    let left = c.left_side-left.ensures.0 in
    let own_left = c.left_side.ensures.0 in
    off_is p.1 c.loop-due.invariant c.loop-due-test.true _ _ c.read-own.ensures (omega arith) c.read-new.ensures (omega arith) _
    (sym c.in_default.ensures.0) c.chosen.ensures

pub overflow_add-depth : goal.overflow_add-depth
overflow_add-depth c = let d = c.loop-due.invariant.depth in omega arith

pub overflow_add-at : goal.overflow_add-at
overflow_add-at c =
    let i = c.loop-due.invariant in
    let f = i.far in
    let d = i.depth in
    let n = c.read-new.ensures.narrow in
    omega arith

pub overflow_add-due : goal.overflow_add-due
overflow_add-due c =
    let i = c.loop-due.invariant in
    let f = i.many in
    let d = i.depth in
    let n = c.read-new.ensures.few in
    omega arith

pub loop-due-smaller : goal.loop-due-smaller
loop-due-smaller c =
    let p = c.requires in
    let left = c.left_side-left.ensures.0 in
    let own_left = c.left_side.ensures.0 in
    let d = not_deep p.1 c.loop-due.invariant c.loop-due-test.true _ _ c.read-own.ensures (omega arith) c.read-new.ensures (omega arith) in
    omega arith

pub loop-due-preserved : goal.loop-due-preserved
loop-due-preserved c =
    let p = c.requires in
    let left = c.left_side-left.ensures.0 in
    let own_left = c.left_side.ensures.0 in
    reached_on p.1 c.loop-due.invariant c.loop-due-test.true _ _ c.read-own.ensures (omega arith) c.read-new.ensures
    (omega arith) _ _ _ _ (sym c.in-Some.ensures.0) refl refl refl

pub returns : goal.returns
returns c =
    let p = c.requires in
    behind_is p.1 _ _ _ _ c.loop-due.invariant (omega arith)
