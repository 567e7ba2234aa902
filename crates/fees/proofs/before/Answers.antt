-- Answers of `before`. Assumes nothing.
use mathlib.Core.Path.{◌≡◌, refl, ap, ◌∙◌}
use native.Mathlib.Omega.{arith}
use Rattle.fees.specs.Fees as F
use Rattle.fees.proofs.Loops.{count_none, count_next}
use Rattle.fees.proofs.before.Goals as goal
use Rattle.fees.proofs.before.Goals.{then-comes_before, else-comes_before}

pub loop-j-init : goal.loop-j-init
loop-j-init c = (omega arith, count_none _)

pub loop-j-preserved : goal.loop-j-preserved
loop-j-preserved c =
    let next = count_next c.args.rests.now c.args.i c.loop-j.j c.loop-j.count c.if-comes_before.count c.loop-j.invariant.1 refl refl c.comes_before.ensures in
    elim c.if-comes_before.branch [
      | then-comes_before w ↦ (omega arith, next (w.count-is ∙ rw w.if-comes_before.true refl))
      | else-comes_before w ↦ (omega arith, next (rw w.if-comes_before.false (omega (arith, w.count-is))))
    ]

pub returns : goal.returns
returns c =
    let l = c.loop-j in
    let e : l.j ≡ c.args.n = omega arith in
    l.invariant.1 ∙ ap (F.how_many _) e
