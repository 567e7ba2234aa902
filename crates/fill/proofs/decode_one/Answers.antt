-- `fill::decode_one` meets its contract. Assumes nothing.
use mathlib.Core.Path.{refl}
use Rattle.fill.proofs.Decoding.{decoded_operator, decoded_variable}
use Rattle.fill.proofs.decode_one.Goals as goal

pub returns-in-Operator : goal.returns-in-Operator
returns-in-Operator c =
    decoded_operator _ _ _ _ (rw c.in-Operator.is at c.symbol_at.ensures) c.arity.ensures.0 c.arity.ensures.1
    refl

pub returns-in-Variable : goal.returns-in-Variable
returns-in-Variable c =
    decoded_variable _ _ _ (rw c.in-Variable.is at c.symbol_at.ensures) refl
