-- `points::save` meets its contract, by the laws of Slots. Assumes nothing.
use mathlib.Core.Path.{refl, ap, ◌∙◌}
use Prim.Native.Nat.{ℕ}
use native.Mathlib.Omega.{arith}
use Rattle.slots.specs.Slot.{slot_bytes}
use Rattle.point.specs.Saved.{arrays, saved}
use Rattle.points.proofs.Slots.{slot_long, slot_is, slot_put}
use Rattle.points.proofs.save.Goals as goal

pub returns : goal.returns
returns c =
    let k = c.args.k in
    let p = c.args.points.now in
    let h = c.requires.1 in
    let name = c.args.name.now in
    let book = c.args.book.now in
    let S = saved c.args.x (arrays c.args.symbols.now c.args.work.now c.args.cells.now c.args.order.now) in
    slot_put k p h.slot _ _ refl refl _ _
    (c.write_slot.ensures
    ∙ ap (λ (n : ℕ). slot_bytes n name book c.args.day S) (slot_long k p h.slot _ _ refl refl)
    ∙ slot_is name book c.args.day S h.named (omega (arith, h.short)) (omega arith))
