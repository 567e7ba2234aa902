-- `symbol::resized` meets its contract. Assumes nothing.
use native.Mathlib.Omega.{arith}
use borrow.Author.Rules.{rules}
use Rattle.symbol.specs.Record.{operator, size}
use Rattle.symbol.proofs.Record.{same_bit}
use Rattle.symbol.proofs.resized.Goals as goal

pub overflow_sub-result : goal.overflow_sub-result
unfolding size
overflow_sub-result c = omega arith

-- the record stays far below 2 ^ 32
pub overflow_add-result : goal.overflow_add-result
unfolding size
overflow_add-result c = search rules

pub returns : goal.returns
unfolding operator size
returns c = (omega arith, omega arith, same_bit _ _ (omega arith))
