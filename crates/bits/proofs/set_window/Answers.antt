-- `bits::set_window` meets its contract: three stores, one after another. Assumes nothing.
use Rattle.bits.proofs.set_window.Goals as goal

pub returns : goal.returns
returns c =
    rw (c.set_byte-3.ensures, c.set_byte-2.ensures, c.set_byte.ensures)
