-- Answers of `write_stack`. Assumes nothing.
use mathlib.Core.Path.{refl, sym, ◌∙◌, subst}
use Prim.Native.Nat.{◌-◌}
use native.Mathlib.Omega.{arith}
use Rattle.point_writer.specs.Promises.{FrameFitsFields}
use Rattle.point_writer.proofs.Puts.{put_none, put_as, put_both}
use Rattle.point_writer.proofs.Fields.{stack_end, stack_fits, stack_more}
use borrow.Author.Rules.{rules}
use Rattle.point_writer.proofs.write_stack.Goals as goal

pub loop-k-init : goal.loop-k-init
loop-k-init c = (omega arith, omega arith, refl, c.requires.2, λ out' r h. h)

pub write_frame-to-requires : goal.write_frame-to-requires
write_frame-to-requires c =
    let k = c.loop-k.k in
    (subst FrameFitsFields (sym c.frame_at.ensures.0) (stack_fits _ c.args.from k (k - 1) (omega arith) c.loop-k.invariant.3).0, search rules)

pub loop-k-preserved : goal.loop-k-preserved
loop-k-preserved c =
    let e = c.write_frame-to.ensures in
    let f = c.frame_at.ensures.0 in
    let k = c.loop-k.k in (
      omega arith,
      omega (arith, e.1),
      e.0.long ∙ c.loop-k.invariant.2,
      (stack_fits _ c.args.from k (k - 1) (omega arith) c.loop-k.invariant.3).1,
      λ out' r h. c.loop-k.invariant.4 out' r (put_as (stack_more _ c.args.from k (k - 1) (omega arith) f) (put_both e.0 h)),
    )

pub returns : goal.returns
returns c =
    let l = c.loop-k in
    (l.invariant.4 _ _ (put_as (stack_end _ c.args.from l.k (omega arith)) (put_none _ _ (omega arith))), omega arith)
