-- `tables::put_sides` meets its contract. Assumes nothing.
use Rattle.tables.proofs.put_sides.Goals as goal

pub returns : goal.returns
returns c = rw (c.word-2.ensures, c.word.ensures)
