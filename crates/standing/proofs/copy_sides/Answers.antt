-- `standing::copy_sides` meets its contract. Assumes nothing.
use Rattle.standing.proofs.copy_sides.Goals as goal

pub returns : goal.returns
returns c = rw (c.left_side-left.ensures.0, c.right_side.ensures.0) at c.put_sides.ensures
