-- `resumption::load` meets its contract. Assumes nothing.
use Rattle.resumption.proofs.Slot.{of_slot}
use Rattle.resumption.proofs.load.Goals as goal

pub returns : goal.returns
returns c = of_slot _ c.args.k c.requires.0 c.load_part.ensures
