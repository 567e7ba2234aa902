-- `units::top` meets its contract: the highest frame of unit u. Assumes nothing.
use native.Mathlib.Omega.{arith}
use Rattle.units.proofs.Changes.{topmost}
use Rattle.units.proofs.top.Goals as goal

pub frame_at-requires : goal.frame_at-requires
frame_at-requires c =
    let f = c.requires.fit in
    omega (arith, f.placed c.args.u c.requires.unit, f.most c.args.u, f.regions.bytes)

pub returns : goal.returns
returns c =
    let f = c.frame_at.ensures in
    topmost _ c.requires f.0 f.1 (omega arith)
