-- Answers of `fill`. Assumes nothing.
use mathlib.Core.Path.{sym, ◌∙◌}
use Rattle.text.proofs.Pass.{passed_none, passed_all, passed_separator, passed_letter, passed_over}
use Rattle.text.proofs.fill.Goals as goal

pub loop-b-init : goal.loop-b-init
loop-b-init c = passed_none _ _ c.requires.1

pub loop-b-preserved-then-c-eq0 : goal.loop-b-preserved-then-c-eq0
loop-b-preserved-then-c-eq0 c =
    passed_separator _ _ _ _ _ _ c.loop-b.invariant c.loop-b-test.true (sym c.class-c.ensures ∙ c.if-c-eq0.true)

pub returns-in_err-k : goal.returns-in_err-k
returns-in_err-k c =
    rw c.from_residual.ensures
    (passed_over _ _ _ _ _ _ c.loop-b.invariant c.loop-b-test.true _ _ c.class-c.ensures c.if-c-eq0.false c.in_err-k.ensures)

pub loop-b-preserved : goal.loop-b-preserved
loop-b-preserved c =
    passed_letter _ _ _ _ _ _ c.loop-b.invariant c.loop-b-test.true _ _ c.class-c.ensures c.if-c-eq0.false c.in_ok-k.ensures

pub returns : goal.returns
returns c = passed_all _ _ _ _ _ _ c.loop-b.invariant c.loop-b-test.false
