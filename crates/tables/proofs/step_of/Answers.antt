-- `tables::step_of` meets its contract: an answer for each range of codes. Assumes nothing.
use native.Mathlib.Omega.{arith}
use borrow.Author.Tests.{ne_eqb, lt-ltb, le-ltb}
use Rattle.tables.specs.Layout.{step_of}
use Rattle.tables.proofs.step_of.Goals as goal

pub returns-then-code-eq0 : goal.returns-then-code-eq0
unfolding step_of
returns-then-code-eq0 c = rw c.if-code-eq0.true

pub returns-then-code-lt8 : goal.returns-then-code-lt8
unfolding step_of
returns-then-code-lt8 c =
    let x = c.args.code in
    simp (ne_eqb x 0 c.if-code-eq0.false, lt-ltb x 8 (omega arith))

pub returns-then-code-lt16 : goal.returns-then-code-lt16
unfolding step_of
returns-then-code-lt16 c =
    let x = c.args.code in
    simp (ne_eqb x 0 c.if-code-eq0.false, le-ltb x 8 (omega arith), lt-ltb x 16 (omega arith))

pub returns-then-code-lt24 : goal.returns-then-code-lt24
unfolding step_of
returns-then-code-lt24 c =
    let x = c.args.code in
    simp (ne_eqb x 0 c.if-code-eq0.false, le-ltb x 8 (omega arith), le-ltb x 16 (omega arith), lt-ltb x 24 (omega arith))

pub returns : goal.returns
unfolding step_of
returns c =
    let x = c.args.code in
    simp (ne_eqb x 0 c.if-code-eq0.false, le-ltb x 8 (omega arith), le-ltb x 16 (omega arith), le-ltb x 24 (omega arith))
