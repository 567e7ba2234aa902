-- Three stores put a frame; what is outside of changes, and that it adds up. Assumes nothing.
use mathlib.Core.Path.{◌≡◌, refl, ◌∙◌}
use mathlib.Core.List.{List}
use mathlib.Core.Logic.{◌⊎◌, inl, inr}
use Prim.Native.Nat.{ℕ, ◌+◌, ◌≤◌, ◌<◌}
use native.Mathlib.Omega.{arith}
use lib.ListN.{length, get_or, set, length-set}
use lib.Seq.{get_or-set_same, get_or-set_other}
use Rattle.units.specs.Frames.{decode, frame_at}
use Rattle.units.specs.Promises.{SameOutside, FramePut}

-- frames whose bytes agree
pub frame_same : (w w' : List ℕ) (at : ℕ) → ((i : ℕ) → at ≤ i → i < at + 3 → get_or w' i 0 ≡ get_or w i 0) → frame_at w' at ≡ frame_at w at
frame_same w w' at h =
    rw (h at (omega arith) (omega arith), h (at + 1) (omega arith) (omega arith), h (at + 2) (omega arith) (omega arith))

pub stores : {w : List ℕ} {at : ℕ} (kind low high : ℕ) → at + 3 ≤ length w →
    FramePut at (decode kind low high) w (set (set (set w at kind) (at + 1) low) (at + 2) high)
stores {w} {at} kind low high h =
    let w₁ = set w at kind in
    let w₂ = set w₁ (at + 1) low in
    let w₃ = set w₂ (at + 2) high in
    let l₁ : length w₁ ≡ length w = length-set w at kind in
    let l₂ : length w₂ ≡ length w₁ = length-set w₁ (at + 1) low in
    let x : get_or w₃ at 0 ≡ kind =
    get_or-set_other w₂ (at + 2) at high 0 (λ e. omega arith) ∙ get_or-set_other w₁ (at + 1) at low 0 (λ e. omega arith) ∙ get_or-set_same w at kind 0 (omega arith) in
    let y : get_or w₃ (at + 1) 0 ≡ low = get_or-set_other w₂ (at + 2) (at + 1) high 0 (λ e. omega arith) ∙ get_or-set_same w₁ (at + 1) low 0 (omega arith) in
    let z : get_or w₃ (at + 2) 0 ≡ high = get_or-set_same w₂ (at + 2) high 0 (omega arith) in
    record {
      outside = record {
        size = length-set w₂ (at + 2) high ∙ l₂ ∙ l₁;
        rest = λ i d.
            get_or-set_other w₂ (at + 2) i high 0 (away i 2 d (omega arith))
            ∙ get_or-set_other w₁ (at + 1) i low 0 (away i 1 d (omega arith))
            ∙ get_or-set_other w at i kind 0 (λ e. away i 0 d (omega arith) (omega arith));
      };
      frame = rw (x, y, z);
    }
  where
    away : (i m : ℕ) → (i < at) ⊎ (at + 3 ≤ i) → m < 3 → i ≡ at + m → ⊥
    away i m (inl b) l e = omega arith
    away i m (inr b) l e = omega arith

-- a frame outside what has changed
pub outside_frame : {w w' : List ℕ} {from end : ℕ} → SameOutside from end w w' → (at : ℕ) → (at + 3 ≤ from) ⊎ (end ≤ at) → frame_at w' at ≡ frame_at w at
outside_frame {w} {w'} q at (inl b) = frame_same w w' at (λ i l h. q.rest i (inl (omega arith)))
outside_frame {w} {w'} q at (inr b) = frame_same w w' at (λ i l h. q.rest i (inr (omega arith)))

pub outside_none : {w : List ℕ} {from end : ℕ} → SameOutside from end w w
outside_none = record { size = refl; rest = λ i d. refl }

-- one change after another
pub outside_then : {w w₁ w₂ : List ℕ} {k m k₁ m₁ k₂ m₂ : ℕ} → SameOutside k m w w₁ → SameOutside k₁ m₁ w₁ w₂ → k₂ ≤ k → k₂ ≤ k₁ → m ≤ m₂ → m₁ ≤ m₂ →
    SameOutside k₂ m₂ w w₂
outside_then p q a b c d = record {
  size = q.size ∙ p.size;
  rest = λ i o.
      elim o [
        | inl l ↦ q.rest i (inl (omega arith)) ∙ p.rest i (inl (omega arith))
        | inr l ↦ q.rest i (inr (omega arith)) ∙ p.rest i (inr (omega arith))
      ];
}
