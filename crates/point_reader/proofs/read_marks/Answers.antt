-- Answers of `read_marks`. Assumes nothing.
use native.Mathlib.Omega.{arith}
use Rattle.bits.proofs.Reading.{got, ran_out}
use Rattle.point_reader.proofs.Term.{marking_start, marking_plain, marking_mark, marking_out, marking_all}
use Rattle.point_reader.proofs.read_marks.Goals as goal
use Rattle.point_reader.proofs.read_marks.Goals.{then-b-ne0, else-b-ne0}

pub loop-i-init : goal.loop-i-init
loop-i-init c = marking_start c.requires.3

pub returns-in_err-b : goal.returns-in_err-b
returns-in_err-b c =
    rw c.from_residual.ensures
    (marking_out c.loop-i.invariant c.loop-i-test.true (omega (arith, c.requires.1, c.requires.2)) (ran_out c.field.ensures c.in_err-b.was))

pub loop-i-preserved : goal.loop-i-preserved
loop-i-preserved c =
    let h = c.loop-i.invariant in
    let l : _ = c.loop-i-test.true in
    let g = got c.field.ensures c.in_ok-b.was in
    elim c.if-b-ne0.branch [
      | then-b-ne0 w ↦ rw w.symbols-is (marking_mark h l (omega (arith, c.requires.1, c.requires.2)) _ _ _ g.is w.if-b-ne0.true w.mark.ensures)
      | else-b-ne0 w ↦ rw w.symbols-is (marking_plain h l (omega (arith, c.requires.1, c.requires.2)) _ _ g.is w.if-b-ne0.false)
    ]

pub returns : goal.returns
returns c = marking_all c.loop-i.invariant (omega (arith, c.loop-i.invariant.few, c.loop-i-test.false))
