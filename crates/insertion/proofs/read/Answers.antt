-- `insertion::read` meets its contract. Assumes nothing.
use Rattle.insertion.proofs.Symbols.{read_operator, read_variable}
use Rattle.insertion.proofs.read.Goals as goal

pub returns-in-Operator : goal.returns-in-Operator
returns-in-Operator c =
    read_operator _ _ _ _ _ _ (rw c.in-Operator.is at c.symbol_at.ensures) c.arity.ensures.0 c.arity.ensures.1

pub returns-in-Variable : goal.returns-in-Variable
returns-in-Variable c = read_variable _ _ _ _ _ (rw c.in-Variable.is at c.symbol_at.ensures)
