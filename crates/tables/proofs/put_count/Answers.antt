-- `tables::put_count` meets its contract. Assumes nothing.
use Rattle.tables.proofs.put_count.Goals as goal

pub returns : goal.returns
returns c = rw c.word.ensures
