-- `run::ended` meets its contract. Assumes nothing.
use Rattle.run.proofs.ended.Goals as goal

pub returns : goal.returns
returns c = rw c.length.ensures
