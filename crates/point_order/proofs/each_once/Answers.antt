-- Answers of `each_once`. Assumes nothing.
use mathlib.Core.List.{List}
use mathlib.Core.Path.{◌≡◌, refl, sym, ◌∙◌, subst}
use Prim.Native.Nat.{ℕ, ◌+◌, ◌-◌, ◌<◌}
use native.Mathlib.Omega.{arith}
use Rattle.point_order.specs.Promises.{RankCounted}
use Rattle.point_order.proofs.Ranks.{once_next, once_stop, once_end}
use Rattle.point_order.proofs.each_once.Goals as goal

-- the rank below r and one more is r
at_rank : {cells : List ℕ} {units n : ℕ} (r : ℕ) → 0 < r → RankCounted cells units (r - 1 + 1) n → RankCounted cells units r n
at_rank {cells} {units} {n} r l = let z : r - 1 + 1 ≡ r = omega arith in subst (λ (i : ℕ). RankCounted cells units i n) z

pub loop-r-init : goal.loop-r-init
loop-r-init c w = refl

pub returns-then-of_rank-ne1 : goal.returns-then-of_rank-ne1
returns-then-of_rank-ne1 c =
    let l = c.loop-r in
    record { is = λ w. sym (l.invariant w ∙ once_stop w (at_rank l.r c.loop-r-test.true c.of_rank.ensures) c.loop-r-test.true c.if-of_rank-ne1.true) }

pub loop-r-preserved : goal.loop-r-preserved
loop-r-preserved c w =
    let l = c.loop-r in
    l.invariant w ∙ once_next w (at_rank l.r c.loop-r-test.true c.of_rank.ensures) c.loop-r-test.true c.if-of_rank-ne1.false

pub returns : goal.returns
returns c =
    let l = c.loop-r in
    record { is = λ w. sym (l.invariant w ∙ once_end w _ _ l.r (omega arith)) }
