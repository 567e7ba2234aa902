-- `standing::key_of` meets its contract, by the laws of Keys. Assumes nothing.
use mathlib.Core.Path.{refl}
use native.Mathlib.Omega.{arith}
use Rattle.standing.proofs.Keys.{key_variable, key_operator}
use Rattle.standing.proofs.key_of.Goals as goal

pub overflow_add-result-in-Operator : goal.overflow_add-result-in-Operator
overflow_add-result-in-Operator c = omega (arith, c.second.ensures.small)

pub returns-in-Variable : goal.returns-in-Variable
returns-in-Variable c = key_variable (rw c.in-Variable.is at c.symbol_at.ensures)

pub returns-in-Operator : goal.returns-in-Operator
returns-in-Operator c =
    key_operator (rw c.in-Operator.is at c.symbol_at.ensures) c.index.ensures.0 c.second.ensures refl
