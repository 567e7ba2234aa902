-- Answers of `check_line`. Assumes nothing.
use mathlib.Core.Path.{sym, ◌∙◌}
use native.Mathlib.Omega.{arith}
use borrow.Author.Tests.{lt-ltb, le-ltb}
use Rattle.line.specs.Line.{judgement}
use Rattle.line.proofs.Checking.{fault_whole, fault_short, fault_over, fault_unknown, fault_known}
use Rattle.line.proofs.check_line.Goals as goal

pub returns-then-line-gt1024 : goal.returns-then-line-gt1024
unfolding judgement
returns-then-line-gt1024 c = simp (lt-ltb _ _ c.if-line-gt1024.true)

pub loop-o-init : goal.loop-o-init
unfolding judgement
loop-o-init c = (omega arith, simp (le-ltb _ _ c.if-line-gt1024.false))

pub returns-then-due-eq0 : goal.returns-then-due-eq0
returns-then-due-eq0 c = sym (c.loop-o.invariant.1 ∙ fault_over _ _ _ _ _ c.loop-o-test.true c.if-due-eq0.true)

pub returns-then-n-index : goal.returns-then-n-index
returns-then-n-index c =
    sym (c.loop-o.invariant.1 ∙ fault_unknown _ _ _ _ _ c.loop-o-test.true c.if-due-eq0.false (omega arith))

pub loop-o-preserved : goal.loop-o-preserved
loop-o-preserved c =
    (omega arith, c.loop-o.invariant.1 ∙ fault_known _ _ _ _ _ _ c.loop-o-test.true c.if-due-eq0.false (omega arith) (omega arith))

pub returns-then-due-eq0-2 : goal.returns-then-due-eq0-2
returns-then-due-eq0-2 c = sym (c.loop-o.invariant.1 ∙ fault_whole _ _ _ _ _ c.loop-o-test.false c.if-due-eq0-2.true)

pub returns-else-due-eq0-2 : goal.returns-else-due-eq0-2
returns-else-due-eq0-2 c = sym (c.loop-o.invariant.1 ∙ fault_short _ _ _ _ _ c.loop-o-test.false c.if-due-eq0-2.false)
