-- Answers of `of_rank`. Assumes nothing.
use mathlib.Core.Path.{sym, ap, ◌∙◌}
use Prim.Native.Nat.{ℕ, ◌+◌}
use native.Mathlib.Omega.{arith}
use Rattle.flat.specs.Rules.{of_rank}
use Rattle.units.proofs.Loops.{units_all}
use Rattle.point_order.proofs.Ranks.{rank_none, rank_here, rank_past}
use Rattle.point_order.proofs.of_rank.Goals as goal

pub loop-v-init : goal.loop-v-init
loop-v-init c = (omega arith, omega arith, λ w. rank_none w _ _ _ _ (omega arith))

pub loop-v-preserved-then-rank-r : goal.loop-v-preserved-then-rank-r
loop-v-preserved-then-rank-r c =
    let l = c.loop-v.invariant in
    let e = c.rank.ensures in
    (omega (arith, l.0), omega (arith, l.1), λ w. rank_here w _ _ _ _ _ _ (sym e ∙ c.if-rank-r.true) (omega arith) (omega (arith, l.0)) ∙ ap (λ (k : ℕ). k + 1) (l.2 w))

pub loop-v-preserved : goal.loop-v-preserved
loop-v-preserved c =
    let l = c.loop-v.invariant in
    let e = c.rank.ensures in
    (omega (arith, l.0), omega (arith, l.1), λ w. rank_past w _ _ _ _ _ _ (λ z. c.if-rank-r.false (e ∙ z)) (omega arith) (omega (arith, l.0)) ∙ l.2 w)

pub returns : goal.returns
returns c =
    let l = c.loop-v.invariant in
    record { units = λ w. ap (of_rank _) (units_all w _ _ _ (omega arith)) ∙ l.2 w; few = omega (arith, l.1) }
