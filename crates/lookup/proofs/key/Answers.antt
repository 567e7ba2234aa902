-- `lookup::key` meets its contract. Assumes nothing.
use Rattle.lookup.proofs.Nodes.{key_operator, key_variable}
use Rattle.lookup.proofs.key.Goals as goal

pub returns-in-Operator : goal.returns-in-Operator
returns-in-Operator c =
    key_operator _ _ (rw c.left_side.ensures.0 at (rw c.in-Operator.is at c.symbol_at.ensures))

pub returns-in-Variable : goal.returns-in-Variable
returns-in-Variable c =
    key_variable _ _ (rw c.left_side.ensures.0 at (rw c.in-Variable.is at c.symbol_at.ensures))
