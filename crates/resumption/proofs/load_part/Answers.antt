-- `resumption::load_part` meets its contract, by what the part is opened as. Assumes nothing.
use Rattle.resumption.proofs.Slot.{short_book, loaded, loaded_none}
use Rattle.resumption.proofs.load_part.Goals as goal

pub copy-requires : goal.copy-requires
copy-requires c = (short_book c.«open».ensures c.in_ok-opened.was).1

pub returns-in_err-opened : goal.returns-in_err-opened
returns-in_err-opened c = rw c.from_residual.ensures (loaded_none c.«open».ensures c.in_err-opened.was)

pub returns : goal.returns
returns c = loaded c.«open».ensures _ c.in_ok-opened.was c.copy.ensures c.pair.ensures.0
