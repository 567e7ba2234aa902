-- Answers of `each_rank_good`. Assumes nothing.
use mathlib.Core.Path.{refl, sym, ◌∙◌}
use native.Mathlib.Omega.{arith}
use Rattle.flat.specs.Tested.{rank_good}
use Rattle.point_order.proofs.Tests.{below_next, below_stop, below_end}
use Rattle.point_order.proofs.each_rank_good.Goals as goal

pub loop-v-init : goal.loop-v-init
loop-v-init c = (omega arith, λ B z t. refl)

pub returns-then-not-rank_good : goal.returns-then-not-rank_good
returns-then-not-rank_good c =
    let l = c.loop-v in
    record { is = λ B z t. sym (l.invariant.1 B z t ∙ below_stop (rank_good B z) l.v _ (omega arith) (sym (c.rank_good.ensures.is B z t) ∙ c.if-not-rank_good.true)) }

pub loop-v-preserved : goal.loop-v-preserved
loop-v-preserved c =
    let l = c.loop-v in
    (omega (arith, l.invariant.0), λ B z t. l.invariant.1 B z t ∙ below_next (rank_good B z) l.v _ (omega arith) (sym (c.rank_good.ensures.is B z t) ∙ c.if-not-rank_good.false))

pub returns : goal.returns
returns c =
    let l = c.loop-v in
    record { is = λ B z t. sym (l.invariant.1 B z t ∙ below_end (rank_good B z) l.v (omega arith)) }
