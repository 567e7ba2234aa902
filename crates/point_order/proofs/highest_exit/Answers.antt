-- Answers of `highest_exit`. Assumes nothing.
use mathlib.Core.Path.{refl, sym, ◌∙◌}
use native.Mathlib.Omega.{arith}
use Rattle.point_order.proofs.Loops.{highest_here, highest_past, highest_end, exit_unit}
use Rattle.point_order.proofs.highest_exit.Goals as goal

pub loop-k-init : goal.loop-k-init
loop-k-init c = (omega arith, refl)

pub returns-in-Exit : goal.returns-in-Exit
returns-in-Exit c =
    let f = c.frame_at in
    let l = c.loop-k in
    let q = c.in-Exit.is in
    (sym (l.invariant.1 ∙ highest_here _ _ _ l.k (omega arith) f.result f.ensures.0 _ q), (omega (arith, l.invariant.0), exit_unit _ _ f.ensures.1 q))

pub loop-k-preserved : goal.loop-k-preserved
loop-k-preserved c =
    let f = c.frame_at in
    let l = c.loop-k in
    (omega (arith, l.invariant.0), l.invariant.1 ∙ highest_past _ _ _ l.k (omega arith) f.result f.ensures.0 c.in_default.not-Exit)

pub returns : goal.returns
returns c = let l = c.loop-k in (sym (l.invariant.1 ∙ highest_end _ _ l.k (omega arith)), tt)
