-- `side::has` meets its contract: the bit v of a number is what the shift leaves lowest. Assumes nothing.
use Rattle.side.proofs.Mask.{bit_is}
use Rattle.side.proofs.has.Goals as goal

pub returns : goal.returns
returns c = rw (bit_is c.args.v c.args.mask)
