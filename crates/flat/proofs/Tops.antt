-- A stack is never empty: at the bottom of unit 0's is BINGO, of another's SLEEP. Assumes nothing.
use mathlib.Core.Path.{refl, sym, ap, ◌∙◌}
use mathlib.Core.List.{List, [], ◌∷◌, ◌++◌}
use mathlib.Core.Logic.{inl}
use Prim.Native.Nat.{ℕ, zero, suc, ◌≤◌, ◌<◌}
use native.Mathlib.Omega.{arith}
use lib.ListN.{length, length-append}
use Rattle.paper.specs.Book.{Book}
use Rattle.paper.specs.Marks.{plain}
use Rattle.paper.specs.Machine.{Order, Limits}
use Rattle.paper.proofs.Ghost.{Ghost}
use Rattle.paper.proofs.View.{Block, block, list}
use Rattle.paper.proofs.Invariant.{all, root_label}
use Rattle.paper.proofs.Stack as Blocks
use Rattle.paper.proofs.Stack.{Same, same_in, in_split, list_append, list_same}
use Rattle.flat.specs.Machine.{FlatUnit, FlatState}
use Rattle.flat.specs.Rules.{stack}
use Rattle.flat.specs.Relation.{Placed, at, list_of}
use Rattle.flat.proofs.Stacks.{stack_length, list_at, unit_at}
use Rattle.flat.proofs.Course.{FlatInv, flat_inv}

-- the orders of a unit's blocks are some
root_some : (D : Ghost) (bs : List Block) → Same bs (all D) → 1 ≤ length (Blocks.list_of 0 bs)
root_some D bs h =
    let x = block root_label (list [] D ++ (Order.bingo ∷ [])) in
    let (a, b, e) = in_split x bs (same_in (all D) bs (λ φ. sym (h φ)) x (inl refl)) in
    omega (
      arith,
      ap (λ (z : List Block). length (Blocks.list_of 0 z)) e,
      ap length (list_append 0 a (x ∷ b)),
      ap length (list_same 0 x b refl),
      length-append (Blocks.blocks_of 0 a) (Blocks.list_of 0 (x ∷ b)),
      length-append (list [] D ++ (Order.bingo ∷ [])) (Blocks.list_of 0 b),
      length-append (list [] D) (Order.bingo ∷ []),
    )

orders_some : (u : ℕ) (D : Ghost) (bs : List Block) → Same bs (all D) → 1 ≤ length (Blocks.list_of u bs)
unfolding Blocks.list_of Blocks.bottom
orders_some zero D bs h = root_some D bs h
orders_some (suc u) D bs h = omega (arith, length-append (Blocks.blocks_of (suc u) bs) (Order.sleep ∷ []))

frames_some : (B : Book) (gs : List Placed) → 1 ≤ length (list_of B gs) → 0 < length gs
unfolding list_of
frames_some B [] h = absurd (omega arith)
frames_some B (g ∷ gs) h = omega arith

pub stack_some : {B : Book} {L : Limits} {s : FlatState} → FlatInv B L s → (u : ℕ) → 0 < length (stack s u)
stack_some {B} (flat_inv w U n j D bs e good inv ranked queued sz) u =
    let l = frames_some B (at U u).frames (omega (arith, orders_some u D bs inv.same, ap length (sym (inv.fits u).0 ∙ list_at B U u))) in
    omega (
      arith,
      l,
      ap (λ (z : FlatState). length (stack z u)) e,
      ap (λ (x : FlatUnit). length x.stack) (unit_at (plain w) U u),
      stack_length (plain w) (at U u).frames,
    )
