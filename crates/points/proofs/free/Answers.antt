-- `points::free` meets its contract, by the laws of Slots. Assumes nothing.
use mathlib.Core.Path.{refl, ap, ◌∙◌}
use Prim.Native.Nat.{ℕ}
use lib.ListN.{replicate}
use Rattle.points.proofs.Slots.{slot_long, slot_put}
use Rattle.points.proofs.free.Goals as goal

pub returns : goal.returns
returns c =
    let k = c.args.k in
    let p = c.args.points.now in
    slot_put k p c.requires _ _ refl refl _ _
    (c.clear.ensures ∙ ap (λ (n : ℕ). replicate n 0) (slot_long k p c.requires _ _ refl refl))
