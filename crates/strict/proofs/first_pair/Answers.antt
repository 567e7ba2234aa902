-- Answers of `first_pair`. Assumes nothing.
use mathlib.Core.Path.{refl}
use native.Mathlib.Omega.{arith}
use Rattle.paper.specs.Strict.{overlap_of}
use Rattle.strict.proofs.Rules.{decides_next, pair_first, pair_none}
use Rattle.strict.proofs.first_pair.Goals as goal

pub loop-i-init : goal.loop-i-init
unfolding overlap_of
loop-i-init c = λ rs h l. refl

pub overflow_cast-result-in-Some : goal.overflow_cast-result-in-Some
overflow_cast-result-in-Some c =
    let s = rw c.in-Some.is at c.second.ensures in
    let b = s.below in
    omega arith

pub returns-in-Some : goal.returns-in-Some
returns-in-Some c =
    pair_first c.loop-i.invariant _ _ _ c.loop-i-test.true (rw c.in-Some.is at c.second.ensures) refl refl

pub loop-i-preserved : goal.loop-i-preserved
loop-i-preserved c =
    decides_next c.loop-i.invariant c.loop-i-test.true (rw c.in_default.is at c.second.ensures)

pub returns : goal.returns
returns c = pair_none c.loop-i.invariant c.loop-i-test.false
