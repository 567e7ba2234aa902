-- `tables::put_day` meets its contract. Assumes nothing.
use Rattle.tables.proofs.put_day.Goals as goal

pub returns : goal.returns
returns c = rw (c.word.ensures, c.offset.ensures.0)
