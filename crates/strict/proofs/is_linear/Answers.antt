-- Answers of `is_linear`. Assumes nothing.
use mathlib.Core.Logic.{inl, inr}
use mathlib.Core.Path.{refl}
use native.Mathlib.Omega.{arith}
use Rattle.strict.proofs.Sides.{ended, stopped, went, side_linear}
use Rattle.strict.proofs.is_linear.Goals as goal

pub loop-due-init : goal.loop-due-init
loop-due-init c = (omega arith, λ r h. h)

pub returns-in_default : goal.returns-in_default
returns-in_default c =
    side_linear (c.loop-due.invariant.1 _ (stopped c.loop-due-test.true (rw c.in_default.is at c.take.ensures)))

pub overflow_add-due : goal.overflow_add-due
overflow_add-due c =
    let s = rw c.in-Some.is at c.take.ensures in
    let m = s.arity in
    omega arith

pub loop-due-smaller : goal.loop-due-smaller
loop-due-smaller c =
    omega arith

pub loop-due-preserved : goal.loop-due-preserved
loop-due-preserved c =
    let s = rw c.in-Some.is at c.take.ensures in
    let m = s.arity in
    (omega arith, λ b h. c.loop-due.invariant.1 b (went c.loop-due-test.true s refl refl h))

pub returns-else-room-gt0 : goal.returns-else-room-gt0
returns-else-room-gt0 c =
    side_linear (c.loop-due.invariant.1 _ (ended (inr (omega arith))))

pub returns-after-loop-due : goal.returns-after-loop-due
returns-after-loop-due c = side_linear (c.loop-due.invariant.1 _ (ended (inl (omega arith))))
