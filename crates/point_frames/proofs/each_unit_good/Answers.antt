-- Answers of `each_unit_good`. Assumes nothing.
use mathlib.Core.Path.{refl, ◌∙◌}
use Prim.Native.Nat.{◌-◌}
use native.Mathlib.Omega.{arith}
use Rattle.point_frames.specs.Test.{stack_tested}
use Rattle.point_frames.proofs.Stacks.{below_none, below_pass, below_fail}
use Rattle.point_frames.proofs.Whole.{unit_no_stack, unit_frames}
use Rattle.point_frames.proofs.each_unit_good.Goals as goal

pub loop-v-init : goal.loop-v-init
loop-v-init c = (omega arith, λ B s q. refl)

pub stack_good-requires : goal.stack_good-requires
stack_good-requires c = (c.requires.0, omega (arith, c.loop-v.invariant.0))

pub returns-then-not-stack_good : goal.returns-then-not-stack_good
returns-then-not-stack_good c =
    let l = c.loop-v in
    record {
      is = λ B s q.
          l.invariant.1 B s q ∙ below_fail (stack_tested B s) l.v (l.v - 1) (omega arith) ((unit_no_stack (l.v - 1) c.stack_good.ensures c.if-not-stack_good.true).is B s q);
    }

pub each_frame_good-requires : goal.each_frame_good-requires
each_frame_good-requires c =
    let p = c.requires in
    (p.0, p.1, omega (arith, c.loop-v.invariant.0))

pub returns-then-not-each_frame_good : goal.returns-then-not-each_frame_good
returns-then-not-each_frame_good c =
    let l = c.loop-v in
    record {
      is = λ B s q.
          l.invariant.1 B s q
          ∙ below_fail (stack_tested B s) l.v (l.v - 1) (omega arith)
          ((unit_frames (l.v - 1) c.stack_good.ensures c.if-not-stack_good.false c.each_frame_good.ensures).is B s q ∙ c.if-not-each_frame_good.true);
    }

pub loop-v-preserved : goal.loop-v-preserved
loop-v-preserved c =
    let l = c.loop-v in (
      omega (arith, l.invariant.0),
      λ B s q.
          l.invariant.1 B s q
          ∙ below_pass (stack_tested B s) l.v (l.v - 1) (omega arith)
          ((unit_frames (l.v - 1) c.stack_good.ensures c.if-not-stack_good.false c.each_frame_good.ensures).is B s q ∙ c.if-not-each_frame_good.false),
    )

pub returns : goal.returns
returns c = let l = c.loop-v in record { is = λ B s q. l.invariant.1 B s q ∙ below_none (stack_tested B s) l.v (omega arith) }
