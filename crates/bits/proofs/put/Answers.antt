-- `bits::put` meets its contract: the window's new bytes are the spliced bits. Assumes nothing.
use mathlib.Core.Path.{ap, ◌∙◌}
use native.Mathlib.Omega.{arith}
use lib.ListN.{length, length-set}
use Rattle.paper.specs.Bits.{bits_of}
use Rattle.bits.proofs.Place.{write_window}
use Rattle.bits.proofs.put.Goals as goal

pub returns : goal.returns
returns c =
    let bytes = c.set_window.ensures in
    record {
      is = ap bits_of bytes ∙ write_window _ _ _ _ (omega arith) (omega arith) c.window-w.ensures _ _ (omega arith) c.renew-x.ensures.0;
      long = ap length bytes ∙ simp length-set;
    }
