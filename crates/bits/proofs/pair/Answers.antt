-- `bits::pair` meets its contract. Assumes nothing.
use Rattle.bits.proofs.Ahead.{pair_end}
use Rattle.bits.proofs.pair.Goals as goal

pub returns : goal.returns
returns c = pair_end c.byte_at.ensures.0 c.if-i-s.false
