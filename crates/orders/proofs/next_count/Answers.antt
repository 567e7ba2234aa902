-- Answers of `next_count`. Assumes nothing.
use mathlib.Core.Path.{refl, sym, ◌∙◌}
use native.Mathlib.Omega.{arith}
use Rattle.orders.proofs.Steps.{count_none, count_here, count_past, count_end}
use Rattle.orders.proofs.next_count.Goals as goal

pub loop-i-init : goal.loop-i-init
loop-i-init c = refl

pub returns-in-None : goal.returns-in-None
returns-in-None c =
    let n = count_none c.requires.1 _ (omega arith) _ c.step_at.ensures c.in-None.is in
    record { is = n.is ∙ c.loop-i.invariant; few = n.few }

pub returns-in-Join : goal.returns-in-Join
returns-in-Join c =
    let n = count_here c.requires.1 _ (omega arith) _ c.step_at.ensures _ c.in-Join.is in
    record { is = n.is ∙ c.loop-i.invariant; few = n.few }

pub loop-i-preserved : goal.loop-i-preserved
loop-i-preserved c =
    sym (count_past c.requires.1 _ (omega arith) c.step_at.result c.step_at.ensures c.in_default.not-None c.in_default.not-Join _ refl) ∙ c.loop-i.invariant

pub returns : goal.returns
returns c =
    record { is = sym (count_end c.requires.1 _ (omega arith)) ∙ c.loop-i.invariant; few = omega arith }
