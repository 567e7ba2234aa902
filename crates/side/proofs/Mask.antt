-- Laws of variables kept as a number: one more variable is one more bit. Assumes nothing.
use Rattle.std.proofs.Common.{◌≡◌, ℕ, zero, suc, ◌+◌, ◌/◌, ◌%◌, ◌^◌, ◌<◌, true, false, eqb, ◌≢◌, List, [], ◌∷◌, ◌++◌, sym, refl, ap, ◌∙◌, inl, inr, pow-suc, div-one, arith, shr-shr}
use Rattle.paper.specs.Result.{if}
use Rattle.paper.specs.Strategy.{has}
use Rattle.paper.proofs.Tests.{eqb_cases, eqb_true, eqb_false}
use Rattle.side.specs.Mask.{bit, Masks}

pub bit_is : (v m : ℕ) → bit v m ≡ m / 2 ^ v % 2
unfolding bit
bit_is zero m = sym (ap (λ (x : ℕ). x % 2) (div-one m))
bit_is (suc v) m =
    let e : 1 + v ≡ suc v = omega arith in
    bit_is v (m / 2) ∙ ap (λ (x : ℕ). x % 2) (shr-shr m 1 v ∙ ap (λ (k : ℕ). m / 2 ^ k) e)

bit_below : (v m : ℕ) → bit v m < 2
unfolding bit
bit_below zero m = omega arith
bit_below (suc v) m = bit_below v (m / 2)

bit_none : (v : ℕ) → bit v 0 ≡ 0
unfolding bit
bit_none zero = refl
bit_none (suc v) = bit_none v

-- a bit that is not 1 is 0
pub bit_clear : (v m : ℕ) → eqb (bit v m) 1 ≡ false → bit v m ≡ 0
bit_clear v m e = elim (eqb_cases (bit v m) 1) [
  | inl p ↦ let z : true ≡ false = sym p.0 ∙ e in let w : ◌≡◌ {A = ℕ} 0 1 = cc in absurd (omega arith)
  | inr p ↦ let n = p.1 in omega (arith, bit_below v m)
]

half : (v m : ℕ) → (m + 2 ^ suc v) / 2 ≡ m / 2 + 2 ^ v
half v m = omega (arith, pow-suc 2 v)

bit_same : (v m : ℕ) → bit v m ≡ 0 → bit v (m + 2 ^ v) ≡ 1
unfolding bit
bit_same zero m h = omega arith
bit_same (suc v) m h = ap (bit v) (half v m) ∙ bit_same v (m / 2) h

bit_other : (u v m : ℕ) → bit v m ≡ 0 → u ≢ v → bit u (m + 2 ^ v) ≡ bit u m
unfolding bit
bit_other zero zero m h d = absurd (d refl)
bit_other zero (suc v) m h d = omega (arith, pow-suc 2 v)
bit_other (suc u) zero m h d = let e : (m + 1) / 2 ≡ m / 2 = omega arith in ap (bit u) e
bit_other (suc u) (suc v) m h d = ap (bit u) (half v m) ∙ bit_other u v (m / 2) h (λ e. d (ap suc e))

-- one more bit fits
pub with_fits : (w v m : ℕ) → m < 2 ^ w → v < w → bit v m ≡ 0 → m + 2 ^ v < 2 ^ w
unfolding bit
with_fits zero v m l k h = absurd (omega arith)
with_fits (suc w) zero m l k h = omega (arith, pow-suc 2 w)
with_fits (suc w) (suc v) m l k h =
    let s = pow-suc 2 w in
    let i = with_fits w v (m / 2) (omega arith) (omega arith) h in
    omega (arith, pow-suc 2 v)

-- Membership

pub has_same : (u v : ℕ) (vs : List ℕ) → u ≡ v → has u (v ∷ vs) ≡ true
unfolding has
has_same u v vs e = rw (eqb_true u v e, has)

pub has_other : (u v : ℕ) (vs : List ℕ) → u ≢ v → has u (v ∷ vs) ≡ has u vs
unfolding has
has_other u v vs d = rw (eqb_false u v d, has)

pub has_append : (v : ℕ) (xs ys : List ℕ) → has v (xs ++ ys) ≡ if (has v xs) true (has v ys)
unfolding has
has_append v [] ys = refl
has_append v (x ∷ xs) ys = elim (eqb_cases v x) [
  | inl p ↦ has_same v x (xs ++ ys) p.1 ∙ sym (rw (has_same v x xs p.1))
  | inr p ↦ has_other v x (xs ++ ys) p.1 ∙ has_append v xs ys ∙ sym (rw (has_other v x xs p.1))
]

pub masks_none : Masks 0 []
unfolding has
masks_none v = rw (bit_none v)

pub masks_with : (m v : ℕ) (vs : List ℕ) → bit v m ≡ 0 → Masks m vs → Masks (m + 2 ^ v) (v ∷ vs)
masks_with m v vs z h u = elim (eqb_cases u v) [
  | inl p ↦ has_same u v vs p.1 ∙ sym (rw (p.1, bit_same v m z))
  | inr p ↦ has_other u v vs p.1 ∙ h u ∙ sym (rw (bit_other u v m z p.1))
]

-- a variable that is there changes nothing
pub has_known : (v : ℕ) (vs : List ℕ) → has v vs ≡ true → (u : ℕ) → has u vs ≡ has u (v ∷ vs)
has_known v vs e u = elim (eqb_cases u v) [
  | inl p ↦ rw p.1 (e ∙ sym (has_same v v vs refl))
  | inr p ↦ sym (has_other u v vs p.1)
]
