-- Answers of `all_inside`. Assumes nothing.
use mathlib.Core.Path.{refl, ◌∙◌}
use Prim.Native.Nat.{◌-◌}
use native.Mathlib.Omega.{arith}
use Rattle.point_frames.proofs.Stacks.{below_none, below_pass, below_fail}
use Rattle.point_frames.proofs.all_inside.Goals as goal

pub loop-v-init : goal.loop-v-init
loop-v-init c = (omega arith, refl)

pub stack_inside-requires : goal.stack_inside-requires
stack_inside-requires c = (c.requires, omega (arith, c.loop-v.invariant.0))

pub returns-then-not-stack_inside : goal.returns-then-not-stack_inside
returns-then-not-stack_inside c =
    let l = c.loop-v in
    l.invariant.1 ∙ below_fail _ l.v (l.v - 1) (omega arith) (c.stack_inside.ensures ∙ c.if-not-stack_inside.true)

pub loop-v-preserved : goal.loop-v-preserved
loop-v-preserved c =
    let l = c.loop-v in
    (omega (arith, l.invariant.0), l.invariant.1 ∙ below_pass _ l.v (l.v - 1) (omega arith) (c.stack_inside.ensures ∙ c.if-not-stack_inside.false))

pub returns : goal.returns
returns c = let l = c.loop-v in l.invariant.1 ∙ below_none _ l.v (omega arith)
