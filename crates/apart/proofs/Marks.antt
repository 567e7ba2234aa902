-- Bits of words: those of a disjunction and of a difference; words marked for some numbers have the bit at these alone; words of places and of nodes differ
-- in the bits of the rules that are parted. Assumes nothing.
use mathlib.Core.Bool.{Bool, true, false}
use mathlib.Core.List.{List, [], ◌∷◌}
use mathlib.Core.Logic.{◌⊎◌, inl, inr, ◌≢◌}
use mathlib.Core.Path.{◌≡◌, refl, sym, ap, ◌∙◌}
use Prim.Native.Nat.{ℕ, zero, suc, ◌/◌, ◌%◌, ◌^◌, ◌<◌}
use native.Mathlib.Omega.{arith}
use native.Mathlib.Nat.{pow-suc}
use lib.Bits.{bit_or, bit_xor, or_mod, or_shr, xor_mod, xor_shr}
use lib.Dec.{eqb}
use lib.ListN.{length, get_or, set, length-set}
use lib.Seq.{get_or-set_same, get_or-set_other}
use Rattle.paper.specs.Strategy.{has}
use Rattle.paper.specs.Sound.{All}
use Rattle.paper.proofs.Tests.{eqb_cases, has_cases}
use Rattle.side.specs.Mask.{bit}
use Rattle.apart.proofs.Parting.{place_in}
use Rattle.apart.specs.Rows.{has_bit, places_of, mark_all, differ_all, other, parted}

abbrev pub either_of : Bool → Bool → Bool
either_of b c = elim b as (λ z. Bool) [ true ↦ true | false ↦ c ]

abbrev one_of : Bool → Bool → Bool
one_of true true = false
one_of true false = true
one_of false c = c

either_true : (b : Bool) → either_of b true ≡ true
either_true true = refl
either_true false = refl

pub either_false : (b : Bool) → either_of b false ≡ b
either_false true = refl
either_false false = refl

one_false : (b : Bool) → one_of b false ≡ b
one_false true = refl
one_false false = refl

either_both : (a b c : Bool) → either_of (either_of a b) c ≡ either_of a (either_of b c)
either_both true b c = refl
either_both false b c = refl

-- BITS

-- a digit is 0 or 1
digit_cases : (x : ℕ) → x < 2 → (x ≡ 0) ⊎ (x ≡ 1)
digit_cases zero h = inl refl
digit_cases (suc zero) h = inr refl
digit_cases (suc (suc x)) h = absurd (omega arith)

digit_or : (x y : ℕ) → x < 2 → y < 2 → eqb (bit_or x y) 1 ≡ either_of (eqb x 1) (eqb y 1)
digit_or x y h k = elim (digit_cases x h) [
  | inl e ↦ elim (digit_cases y k) [ inl f ↦ rw (e, f) | inr f ↦ rw (e, f) ]
  | inr e ↦ elim (digit_cases y k) [ inl f ↦ rw (e, f) | inr f ↦ rw (e, f) ]
]

digit_xor : (x y : ℕ) → x < 2 → y < 2 → eqb (bit_xor x y) 1 ≡ one_of (eqb x 1) (eqb y 1)
digit_xor x y h k = elim (digit_cases x h) [
  | inl e ↦ elim (digit_cases y k) [ inl f ↦ rw (e, f) | inr f ↦ rw (e, f) ]
  | inr e ↦ elim (digit_cases y k) [ inl f ↦ rw (e, f) | inr f ↦ rw (e, f) ]
]

bit_or_lem : (v a b : ℕ) → has_bit v (bit_or a b) ≡ either_of (has_bit v a) (has_bit v b)
unfolding bit
bit_or_lem zero a b = ap (λ (d : ℕ). eqb d 1) (or_mod a b 1) ∙ digit_or (a % 2) (b % 2) (omega arith) (omega arith)
bit_or_lem (suc v) a b = ap (λ (w : ℕ). has_bit v w) (or_shr a b 1) ∙ bit_or_lem v (a / 2) (b / 2)

bit_xor_lem : (v a b : ℕ) → has_bit v (bit_xor a b) ≡ one_of (has_bit v a) (has_bit v b)
unfolding bit
bit_xor_lem zero a b = ap (λ (d : ℕ). eqb d 1) (xor_mod a b 1) ∙ digit_xor (a % 2) (b % 2) (omega arith) (omega arith)
bit_xor_lem (suc v) a b = ap (λ (w : ℕ). has_bit v w) (xor_shr a b 1) ∙ bit_xor_lem v (a / 2) (b / 2)

pub bit_none : (v : ℕ) → has_bit v 0 ≡ false
unfolding bit
bit_none zero = refl
bit_none (suc v) = bit_none v

half_power : (u : ℕ) → 2 ^ suc u / 2 ≡ 2 ^ u
half_power u = omega (arith, pow-suc 2 u)

-- the word of one bit
bit_own : (u : ℕ) → has_bit u (2 ^ u) ≡ true
unfolding bit
bit_own zero = refl
bit_own (suc u) = ap (λ (w : ℕ). has_bit u w) (half_power u) ∙ bit_own u

bit_other : (v u : ℕ) → v ≢ u → has_bit v (2 ^ u) ≡ false
unfolding bit
bit_other zero zero d = absurd (d refl)
bit_other zero (suc u) d = let e : 2 ^ suc u % 2 ≡ 0 = omega (arith, pow-suc 2 u) in rw e
bit_other (suc v) zero d = bit_none v
bit_other (suc v) (suc u) d = ap (λ (w : ℕ). has_bit v w) (half_power u) ∙ bit_other v u (λ e. d (ap suc e))

-- MARKS

-- bit u is put into the words of the numbers cs
module _ (u n : ℕ) where
  pub marked_length : (cs ws : List ℕ) → length (mark_all (2 ^ u) cs ws) ≡ length ws
  unfolding mark_all
  marked_length [] ws = refl
  marked_length (d ∷ cs) ws = marked_length cs (set ws d (bit_or (get_or ws d 0) (2 ^ u))) ∙ length-set ws d (bit_or (get_or ws d 0) (2 ^ u))

  pub marked : (cs ws : List ℕ) (c : ℕ) → length ws ≡ n → All (λ c. c < n) cs →
      has_bit u (get_or (mark_all (2 ^ u) cs ws) c 0) ≡ either_of (has c cs) (has_bit u (get_or ws c 0))
  unfolding mark_all has
  marked [] ws c l a = refl
  marked (d ∷ cs) ws c l (h, a) =
      let x = bit_or (get_or ws d 0) (2 ^ u) in
      marked cs (set ws d x) c (length-set ws d x ∙ l) a ∙ elim (eqb_cases c d) [
        | inl p ↦
            let e : has_bit u x ≡ true = bit_or_lem u (get_or ws d 0) (2 ^ u) ∙ rw (bit_own u) (either_true (has_bit u (get_or ws d 0))) in
            rw (p.0, has, p.1, get_or-set_same ws d x 0 (omega arith), e) (either_true (has c cs))
        | inr p ↦ rw (p.0, has, get_or-set_other ws d c x 0 p.1)
      ]

  pub marked_other : (cs ws : List ℕ) (v c : ℕ) → v ≢ u → length ws ≡ n → All (λ c. c < n) cs →
      has_bit v (get_or (mark_all (2 ^ u) cs ws) c 0) ≡ has_bit v (get_or ws c 0)
  unfolding mark_all
  marked_other [] ws v c d l a = refl
  marked_other (b ∷ cs) ws v c d l (h, a) =
      let x = bit_or (get_or ws b 0) (2 ^ u) in
      marked_other cs (set ws b x) v c d (length-set ws b x ∙ l) a ∙ elim (eqb_cases c b) [
        | inl p ↦
            rw (p.1, get_or-set_same ws b x 0 (omega arith)) (bit_or_lem v (get_or ws b 0) (2 ^ u) ∙ rw (bit_other v u d) (either_false _))
        | inr p ↦ rw (get_or-set_other ws b c x 0 p.1)
      ]

-- DIFFERENCES

module _ (v : ℕ) (places holders sharers ys : List ℕ)
    (held : (c : ℕ) → has_bit v (get_or holders c 0) ≡ has c (places_of places ys))
    (shared : (z : ℕ) → has_bit v (get_or sharers z 0) ≡ has z ys) where
  differs : (z : ℕ) → has_bit v (bit_xor (get_or holders (get_or places z 0) 0) (get_or sharers z 0)) ≡ other places ys z
  unfolding other
  differs z = bit_xor_lem v (get_or holders (get_or places z 0) 0) (get_or sharers z 0) ∙ rw (held (get_or places z 0), shared z) (elim (has_cases z ys) [
    | inl p ↦ elim (has_cases (get_or places z 0) (places_of places ys)) [
      | inl q ↦ rw (p.0, q.0, other)
      | inr q ↦ absurd (q.1 (place_in places z ys p.1))
    ]
    | inr p ↦ rw (p.0, other) (one_false _)
  ])

  pub differing : (zs : List ℕ) (a : ℕ) → has_bit v (differ_all places holders sharers zs a) ≡ either_of (has_bit v a) (parted places ys zs)
  unfolding differ_all parted
  differing [] a = sym (either_false _)
  differing (z ∷ zs) a =
      let x = bit_xor (get_or holders (get_or places z 0) 0) (get_or sharers z 0) in
      differing zs (bit_or a x) ∙ rw (bit_or_lem v a x, differs z) (either_both (has_bit v a) (other places ys z) (parted places ys zs))
