-- `net::put_sides` meets its contract. Assumes nothing.
use Rattle.net.proofs.Puts.{sides_put}
use Rattle.net.proofs.put_sides.Goals as goal

pub returns : goal.returns
returns c =
    sides_put _ _ _ c.args.i c.args.left c.args.right c.requires.1 c.put_position.ensures c.put_position-2.ensures
