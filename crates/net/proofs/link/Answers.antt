-- `net::link` meets its contract: five cells are put. Assumes nothing.
use mathlib.Core.Path.{refl}
use Rattle.net.proofs.Cells.{placed}
use Rattle.net.proofs.Puts.{linked}
use Rattle.net.proofs.link.Goals as goal

pub returns : goal.returns
returns c =
    linked _ _ _ _ _ _ c.args.i c.args.d c.args.k c.args.j c.bucket-b.result c.requires.3 c.bucket-b.ensures.0 c.requires.4
    (placed refl c.cell.ensures.0 c.put.ensures)
    (placed refl refl c.put-2.ensures)
    (placed refl refl c.put-3.ensures)
    c.put-4.ensures
    (placed refl refl c.put-5.ensures)
