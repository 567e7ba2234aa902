-- Answers of `steps.is_unnamed`. Assumes nothing.
use mathlib.Core.Path.{refl, ◌∙◌}
use Rattle.point_frames.proofs.Rows.{named_here, unnamed_past, unnamed_end}
use Rattle.point_frames.proofs.steps.is_unnamed.Goals as goal

pub loop-i-init : goal.loop-i-init
loop-i-init c = refl

pub returns-then-names : goal.returns-then-names
returns-then-names c =
    c.loop-i.invariant
    ∙ named_here c.requires c.loop-i.i _ c.names.result _ c.loop-i-test.true c.step_at.ensures c.names.ensures c.if-names.true

pub loop-i-preserved : goal.loop-i-preserved
loop-i-preserved c =
    c.loop-i.invariant
    ∙ unnamed_past c.requires c.loop-i.i _ c.names.result _ c.loop-i-test.true c.step_at.ensures c.names.ensures c.if-names.false _ refl

pub returns : goal.returns
returns c = c.loop-i.invariant ∙ unnamed_end c.requires c.loop-i.i _ c.loop-i-test.false
