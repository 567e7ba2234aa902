-- `bits::nine` meets its contract, by the laws of Ahead. Assumes nothing.
use mathlib.Core.Path.{refl}
use Rattle.bits.proofs.Ahead.{nine_read}
use Rattle.bits.proofs.nine.Goals as goal

pub returns : goal.returns
returns c = nine_read _ _ _ _ _ c.pair-w.ensures c.power.ensures.0 refl
