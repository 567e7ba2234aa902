-- `resumption::unit_count` meets its contract, by what the part is opened as. Assumes nothing.
use Rattle.resumption.proofs.Slot.{lent_is, counts_run, counts_none}
use Rattle.resumption.proofs.unit_count.Goals as goal

pub returns-in_err-opened : goal.returns-in_err-opened
returns-in_err-opened c = rw c.from_residual.ensures (counts_none c.«open».ensures (lent_is _ c.args.k c.requires) c.in_err-opened.was)

pub returns : goal.returns
returns c = counts_run c.«open».ensures (lent_is _ c.args.k c.requires) c.in_ok-opened.was
