-- `orders::advance` meets its contract: the job stays on top, with the next order's number. Assumes nothing.
use Rattle.orders.proofs.Changes.{advanced}
use Rattle.orders.proofs.advance.Goals as goal

pub returns : goal.returns
returns c = advanced c.set_top.ensures
