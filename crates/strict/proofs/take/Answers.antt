-- `strict::take` meets its contract, by the laws of Sides. Assumes nothing.
use mathlib.Core.Path.{sym, ◌∙◌}
use Rattle.side.proofs.Mask.{bit_clear}
use Rattle.strict.proofs.Sides.{took_operator, took_variable, met_again}
use Rattle.strict.proofs.take.Goals as goal

pub has-requires : goal.has-requires
has-requires c = rw c.in-Variable.is at c.symbol_at.ensures.small

pub returns-then-has : goal.returns-then-has
returns-then-has c =
    met_again _ _ _ (rw c.in-Variable.is at c.symbol_at.ensures) (sym c.has.ensures ∙ c.if-has.true)

pub with-requires : goal.with-requires
with-requires c =
    (rw c.in-Variable.is at c.symbol_at.ensures.small, bit_clear _ _ (sym c.has.ensures ∙ c.if-has.false))

pub returns-in-Operator : goal.returns-in-Operator
returns-in-Operator c =
    took_operator _ _ _ (rw c.in-Operator.is at c.symbol_at.ensures) c.arity.ensures.0 c.arity.ensures.1

pub returns-else-has : goal.returns-else-has
returns-else-has c =
    took_variable _ _ _ (rw c.in-Variable.is at c.symbol_at.ensures) (bit_clear _ _ (sym c.has.ensures ∙ c.if-has.false)) c.with.ensures
