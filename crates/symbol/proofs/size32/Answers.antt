-- `symbol::size32` meets its contract. Assumes nothing.
use borrow.Author.Rules.{rules}
use Rattle.symbol.specs.Record.{size}
use Rattle.symbol.proofs.size32.Goals as goal

pub returns : goal.returns
unfolding size
returns c = search rules
