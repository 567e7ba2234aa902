-- `side::take` meets its contract, by the laws of Symbols. Assumes nothing.
use Rattle.refusal.proofs.Passing.{passed_up}
use Rattle.side.proofs.Symbols.{step_refused, step_operator, step_variable}
use Rattle.side.proofs.take.Goals as goal

pub meet-requires : goal.meet-requires
meet-requires c = rw c.in-Variable.is at c.in_ok-o.ensures.small

pub returns-in_err-o : goal.returns-in_err-o
returns-in_err-o c =
    rw (passed_up c.from_residual.result c.from_residual.ensures.1) (step_refused _ _ _ _ _ _ _ c.in_err-o.ensures)

pub returns-in-Operator : goal.returns-in-Operator
returns-in-Operator c =
    step_operator _ _ _ _ _ _ _ _ _ (rw c.in-Operator.is at c.in_ok-o.ensures) c.arity.ensures.0 c.arity.ensures.1

pub returns-in-Variable : goal.returns-in-Variable
returns-in-Variable c =
    step_variable _ _ _ _ _ _ _ _ _ (rw c.in-Variable.is at c.in_ok-o.ensures) c.meet.ensures
