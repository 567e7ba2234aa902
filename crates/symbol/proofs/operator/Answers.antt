-- `symbol::operator` meets its contract. Assumes nothing.
use borrow.Author.Rules.{rules}
use Rattle.symbol.specs.Record.{operator}
use Rattle.symbol.proofs.operator.Goals as goal

pub returns : goal.returns
unfolding operator
returns c = search rules
