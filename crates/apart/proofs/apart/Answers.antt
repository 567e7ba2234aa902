-- `apart::apart` meets its contract: a bit of a word is what the shift leaves lowest. Assumes nothing.
use Rattle.side.proofs.Mask.{bit_is}
use Rattle.apart.proofs.apart.Goals as goal

pub returns : goal.returns
returns c = rw bit_is
