-- Answers of `has_classes`. Assumes nothing.
use mathlib.Core.Path.{sym, ◌∙◌}
use native.Mathlib.Omega.{arith}
use Rattle.text.proofs.Operators.{few, end_other, end_none, class_other, class_one, class_all}
use Rattle.text.proofs.has_classes.Goals as goal

pub returns-then-n-lt43 : goal.returns-then-n-lt43
returns-then-n-lt43 c = sym (few _ _ (omega arith))

pub returns-then-arity-ne0 : goal.returns-then-arity-ne0
returns-then-arity-ne0 c = sym (end_other _ _ (omega arith) (omega arith))

pub loop-o-init : goal.loop-o-init
loop-o-init c = (omega arith, omega arith, end_none _ _ (omega arith) (omega arith))

pub returns-then-arity-ne1 : goal.returns-then-arity-ne1
returns-then-arity-ne1 c = sym (c.loop-o.invariant.2 ∙ class_other _ _ (omega arith) (omega arith))

pub loop-o-preserved : goal.loop-o-preserved
loop-o-preserved c =
    (omega arith, omega arith, c.loop-o.invariant.2 ∙ class_one _ _ (omega arith) (omega arith))

pub returns : goal.returns
returns c = sym (c.loop-o.invariant.2 ∙ class_all _ _ (omega arith))
