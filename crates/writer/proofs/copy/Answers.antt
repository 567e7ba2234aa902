-- Answers of `copy`. Assumes nothing.
use Rattle.reader.proofs.Reading.{got, ran_out}
use Rattle.writer.proofs.Puts.{put_no_bits, put_as, put_both, copy_more, there}
use mathlib.Core.Path.{refl, ◌∙◌}
use Prim.Native.Nat.{◌-◌}
use native.Mathlib.Omega.{arith}
use Rattle.writer.proofs.copy.Goals as goal

pub loop-left-init : goal.loop-left-init
loop-left-init c = (c.requires.1, omega arith, refl, λ out' r h. h)

pub returns-in_default : goal.returns-in_default
returns-in_default c =
    let l = c.loop-left in
    absurd (there _ l.p c.some_of-n.result (omega arith) (ran_out c.field.ensures c.in_default.is))

pub emit-q-requires : goal.emit-q-requires
emit-q-requires c =
    let s = (got c.field.ensures c.in-Ok.is).small in
    (omega arith, s, omega arith)

pub loop-left-preserved : goal.loop-left-preserved
loop-left-preserved c =
    let e = c.emit-q.ensures in
    let g = got c.field.ensures c.in-Ok.is in
    let n = c.some_of-n in
    let l = c.loop-left in
    let f = g.ends in (
      omega arith,
      omega arith,
      e.0.long ∙ l.invariant.2,
      λ out' r h. l.invariant.3 out' r (put_as (copy_more g l.left (l.left - n.result) (omega arith)) (put_both e.0 h)),
    )

pub returns : goal.returns
returns c =
    let l = c.loop-left in
    (l.invariant.3 _ _ (put_no_bits _ _ _ l.left (omega arith)), omega arith)
