-- `side::read_right` meets its contract, by the laws of Sides. Assumes nothing.
use Rattle.side.proofs.Sides.{right_is}
use Rattle.side.proofs.read_right.Goals as goal

pub returns : goal.returns
returns c = right_is _ _ _ _ _ _ c.read_rest.ensures
