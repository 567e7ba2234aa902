-- `symbol::mark` meets its contract. Assumes nothing.
use mathlib.Core.Path.{refl, sym, ◌∙◌}
use native.Mathlib.Omega.{arith}
use borrow.Author.Rules.{rules}
use Rattle.symbol.specs.Record.{operator, size}
use Rattle.symbol.proofs.Record.{marked_bit, bit_unmarked}
use Rattle.symbol.proofs.mark.Goals as goal

pub overflow_add-result : goal.overflow_add-result
overflow_add-result c = let z = bit_unmarked c.args.x (sym c.is_marked.ensures ∙ c.if-is_marked.false) in search rules

pub returns-then-is_marked : goal.returns-then-is_marked
returns-then-is_marked c = (refl, refl, sym c.is_marked.ensures ∙ c.if-is_marked.true)

pub returns-else-is_marked : goal.returns-else-is_marked
unfolding operator size
returns-else-is_marked c =
    let z = bit_unmarked c.args.x (sym c.is_marked.ensures ∙ c.if-is_marked.false) in
    (omega arith, omega arith, marked_bit _ (omega arith))
