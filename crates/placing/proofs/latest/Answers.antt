-- Answers of `latest`. Assumes nothing.
use Rattle.placing.proofs.Order.{latest_is, later_more}
use mathlib.Core.Logic.{inl, inr}
use mathlib.Core.Path.{refl, sym, ◌∙◌}
use native.Mathlib.Omega.{arith}
use Rattle.placing.proofs.latest.Goals as goal

pub loop-i-init : goal.loop-i-init
loop-i-init c = λ j a b. absurd (omega (arith, c.pending-i.ensures.0))

pub returns-then-from-u : goal.returns-then-from-u
returns-then-from-u c = record {
  latest =
      latest_is _ _ _ (omega (arith, c.pending-i.ensures.0)) (inr (sym c.from.ensures ∙ c.if-from-u.true))
      (λ j a b. c.loop-i.invariant j (omega arith) b);
  from_one = omega arith;
}

pub loop-i-preserved : goal.loop-i-preserved
loop-i-preserved c = later_more c.args.order.now _ _ c.loop-i.invariant (λ z. c.if-from-u.false (c.from.ensures ∙ z)) (omega arith, omega arith)

pub returns-clause-latest : goal.returns-clause-latest
returns-clause-latest c = latest_is _ _ 0 (omega arith) (inl refl) (λ j a b. c.loop-i.invariant j (omega arith) b)
