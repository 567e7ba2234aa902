-- `symbol::is_marked` meets its contract. Assumes nothing.
use borrow.Author.Rules.{rules}
use Rattle.symbol.specs.Record.{marked}
use Rattle.symbol.proofs.is_marked.Goals as goal

pub returns : goal.returns
unfolding marked
returns c = search rules
