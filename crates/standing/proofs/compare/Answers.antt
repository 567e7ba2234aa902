-- `standing::compare` meets its contract, by the laws of Symbols. Assumes nothing.
use native.Mathlib.Omega.{arith}
use Rattle.standing.proofs.Symbols.{same_operators, other_operator, variable_operator, two_variables}
use Rattle.standing.proofs.compare.Goals as goal

pub returns-then-s-u : goal.returns-then-s-u
returns-then-s-u c =
    same_operators c.nine-s.ensures c.nine-u.ensures (omega arith) c.if-s-lt256.true c.if-s-u.true

pub returns-then-s-lt256 : goal.returns-then-s-lt256
returns-then-s-lt256 c =
    other_operator c.nine-s.ensures c.nine-u.ensures (omega arith) c.if-s-lt256.true c.if-s-u.false

pub returns-then-u-lt256 : goal.returns-then-u-lt256
returns-then-u-lt256 c =
    variable_operator c.nine-s.ensures c.nine-u.ensures (omega arith) (omega (arith, c.if-s-lt256.false)) c.if-u-lt256.true

pub returns : goal.returns
returns c =
    two_variables c.nine-s.ensures c.nine-u.ensures (omega arith) (omega (arith, c.if-s-lt256.false)) (omega (arith, c.if-u-lt256.false))
    (rw (c.variable.ensures.0, c.variable-2.ensures.0) at c.same_name.ensures)
