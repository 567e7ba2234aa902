-- Answers of `tally.distinct`. Assumes nothing.
use mathlib.Core.Path.{refl, ◌∙◌}
use Prim.Native.Nat.{◌-◌}
use native.Mathlib.Omega.{arith}
use borrow.Author.Tests.{le-leb, lt-leb}
use Rattle.point_frames.proofs.Stacks.{below_none, below_pass, below_fail}
use Rattle.point_frames.proofs.tally.distinct.Goals as goal

pub loop-x-init : goal.loop-x-init
loop-x-init c = (omega arith, refl)

pub returns-then-jobs-x-gt1 : goal.returns-then-jobs-x-gt1
returns-then-jobs-x-gt1 c =
    let l = c.loop-x in
    l.invariant.1 ∙ below_fail _ l.x (l.x - 1) (omega arith) (lt-leb _ 1 c.if-jobs-x-gt1.true)

pub loop-x-preserved : goal.loop-x-preserved
loop-x-preserved c =
    let l = c.loop-x in
    (omega (arith, l.invariant.0), l.invariant.1 ∙ below_pass _ l.x (l.x - 1) (omega arith) (le-leb _ 1 c.if-jobs-x-gt1.false))

pub returns : goal.returns
returns c = let l = c.loop-x in l.invariant.1 ∙ below_none _ l.x (omega arith)
