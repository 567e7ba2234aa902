-- Answers of `mark_word`. Assumes nothing.
use mathlib.Core.Path.{◌∙◌}
use Prim.Native.Nat.{◌-◌}
use native.Mathlib.Nat.{one-mul}
use native.Mathlib.Omega.{arith}
use lib.Pow.{shl_exact}
use Rattle.apart.proofs.Words.{marks_none, marks_next, marks_all}
use Rattle.apart.proofs.mark_word.Goals as goal

pub loop-j-init : goal.loop-j-init
loop-j-init c = (omega arith, marks_none c.requires.1 c.requires.2)

pub mark-requires : goal.mark-requires
mark-requires c =
    rw c.from.ensures (c.requires.0.each c.loop-j.j (omega arith))

pub loop-j-preserved : goal.loop-j-preserved
loop-j-preserved c =
    let u = c.loop-j.j - c.args.first in
    let e = shl_exact 1 u 64 (omega arith) (omega arith) ∙ one-mul _ in
    (omega arith, marks_next u c.loop-j.invariant.1 c.requires.0 (omega arith) (omega arith) c.from.ensures e c.mark.ensures.0 c.mark.ensures.1)

pub returns : goal.returns
returns c = marks_all c.loop-j.invariant.1 (λ v h k. omega arith)
