-- `net::put` meets its contract. Assumes nothing.
use Rattle.net.proofs.Cells.{cell_put}
use Rattle.net.proofs.put.Goals as goal

pub returns : goal.returns
returns c = cell_put _ c.args.column c.args.i c.args.v c.requires.0 c.requires.1 c.requires.2
