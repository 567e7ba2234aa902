-- `units::set_top` meets its contract: the highest frame of unit u is put anew. Assumes nothing.
use native.Mathlib.Omega.{arith}
use Rattle.units.proofs.Changes.{tops}
use Rattle.units.proofs.set_top.Goals as goal

pub put_frame-requires : goal.put_frame-requires
put_frame-requires c =
    let f = c.requires.0.fit in
    (omega (arith, f.placed c.args.u c.requires.0.unit, f.most c.args.u, f.regions.bytes), c.requires.1)

pub returns : goal.returns
returns c =
    tops c.put_frame.ensures c.requires.0 (omega arith)
