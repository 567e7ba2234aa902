-- `units::push` meets its contract: a frame is put above the highest of unit u. Assumes nothing.
use mathlib.Core.Path.{refl}
use native.Mathlib.Omega.{arith}
use Rattle.units.proofs.Changes.{pushes}
use Rattle.units.proofs.push.Goals as goal

pub put_frame-requires : goal.put_frame-requires
put_frame-requires c =
    let r = c.requires.0 in
    (omega (arith, r.fit.placed c.args.u r.unit, r.room, r.fit.regions.bytes), c.requires.1)

pub overflow_add-units : goal.overflow_add-units
overflow_add-units c =
    let r = c.requires.0 in
    omega (arith, r.fit.placed c.args.u r.unit, r.room)

pub returns : goal.returns
returns c =
    pushes c.put_frame.ensures c.requires.0 c.end_of.ensures.0 refl
