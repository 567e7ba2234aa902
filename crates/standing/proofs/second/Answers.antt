-- `standing::second` meets its contract, by the laws of Keys. Assumes nothing.
use native.Mathlib.Omega.{arith}
use Rattle.standing.proofs.Keys.{second_none, second_operator, second_variable}
use Rattle.standing.proofs.second.Goals as goal

pub returns-then-end-at : goal.returns-then-end-at
returns-then-end-at c = second_none c.if-end-at.true

pub returns-in-Operator : goal.returns-in-Operator
returns-in-Operator c =
    second_operator (omega (arith, c.if-end-at.false)) (rw c.in-Operator.is at c.symbol_at.ensures) c.index.ensures.0 c.index.ensures.1

pub returns-in-Variable : goal.returns-in-Variable
returns-in-Variable c =
    second_variable (omega (arith, c.if-end-at.false)) (rw c.in-Variable.is at c.symbol_at.ensures)
