-- `side::read_left` meets its contract, by the laws of Sides. Assumes nothing.
use Rattle.refusal.proofs.Passing.{passed_up}
use Rattle.side.proofs.Sides.{left_refused, left_variable, left_rest}
use Rattle.side.proofs.read_left.Goals as goal

pub returns-in_err-read_symbol : goal.returns-in_err-read_symbol
returns-in_err-read_symbol c =
    rw (passed_up c.from_residual.result c.from_residual.ensures.1) (left_refused _ _ _ _ _ c.in_err-read_symbol.ensures)

pub returns-in-Variable : goal.returns-in-Variable
returns-in-Variable c = left_variable _ _ _ _ _ _ (rw c.in-Variable.is at c.in_ok-read_symbol.ensures)

pub returns-in-Operator : goal.returns-in-Operator
returns-in-Operator c =
    left_rest _ _ _ _ _ _ _ (rw c.in-Operator.is at c.in_ok-read_symbol.ensures) c.arity.ensures.0 _ c.read_rest.ensures
