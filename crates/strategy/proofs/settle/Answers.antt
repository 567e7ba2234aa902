-- Answers of `settle`. Assumes nothing.
use mathlib.Core.Path.{refl, ◌∙◌}
use Prim.Native.Nat.{◌+◌}
use native.Mathlib.Omega.{arith}
use Rattle.strategy.proofs.Front.{settling_more, settling_end, kept_same, same_at, same_from}
use Rattle.strategy.proofs.settle.Goals as goal

pub loop-i-init : goal.loop-i-init
loop-i-init c = (omega arith, omega arith, omega arith, c.requires.0, refl, refl)

pub loop-i-preserved : goal.loop-i-preserved
loop-i-preserved c =
    let k = c.keep-len in
    let i = c.loop-i.i in
    let n = c.loop-i.invariant.1 in (
      omega arith,
      omega arith,
      k.ensures.2,
      k.ensures.0.long,
      same_from _ _ (c.loop-i.len + 1) (i + 1) (omega arith) k.ensures.3 ∙ same_from _ _ i (i + 1) (omega arith) c.loop-i.invariant.4,
      c.loop-i.invariant.5
          ∙ settling_more _ _ i c.requires.0 c.requires.1 _ _ c.loop-i.len _ _ _ _ c.loop-i-test.true (same_at _ _ i c.loop-i.invariant.4)
          c.loop-i.invariant.3 (omega arith) c.opened-group.ensures.0 k.ensures.0,
    )

pub returns : goal.returns
returns c = (
  kept_same _ _ _ (c.loop-i.invariant.5 ∙ settling_end _ c.args.count c.loop-i.i c.requires.0 c.requires.1 _ _ (omega arith)) c.loop-i.invariant.3,
  omega arith,
)
