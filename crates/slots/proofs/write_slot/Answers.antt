-- `slots::write_slot` meets its contract. Assumes nothing.
use native.Mathlib.Omega.{arith}
use Rattle.point.specs.Saved.{arrays, saved}
use Rattle.slots.specs.Slot.{point_bytes, slot_bytes}
use Rattle.slots.proofs.Slots.{slot_put}
use Rattle.slots.proofs.write_slot.Goals as goal

pub returns : goal.returns
unfolding slot_bytes
returns c =
    let r = c.requires.1 in
    let n = c.put_name in
    let w = c.write_part in
    slot_put c.args.name.now c.args.slot.now n.new.slot w.new.part
    (point_bytes c.args.book.now c.args.day (saved c.args.x (arrays c.args.symbols.now c.args.work.now c.args.cells.now c.args.order.now))) r.named (omega (arith, r.room)) n.ensures w.ensures
