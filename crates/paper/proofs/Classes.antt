-- The table of classes (document 02, Change 1): a small letter has its capital's class, by one test over the whole table; every class is below 42,
-- which is a gap's. Assumes nothing.
use mathlib.Core.Bool.{Bool, true, false, true≢false}
use mathlib.Core.List.{List, [], ◌∷◌}
use mathlib.Core.Logic.{inl, inr}
use mathlib.Core.Path.{◌≡◌, refl, sym, subst}
use Prim.Native.Nat.{ℕ, zero, suc, ◌+◌, ◌-◌, ◌≤◌, ◌<◌}
use native.Mathlib.Omega.{arith}
use lib.Dec.{T, eqb, ltb, leb, leb→le}
use Rattle.paper.specs.Result.{if}
use Rattle.paper.specs.Text.{Range, ranges, within, class_by, class, gap}
use Rattle.paper.specs.Sound.{In, All}
use Rattle.paper.proofs.Lists.{all_in}
use Rattle.paper.proofs.Tests.{either, eqb_cases, eqb_equal, ltb_less}

-- A TEST OVER A LIST

module _ {A : Type 0} (f : A → Bool) where
  abbrev pub every : List A → Bool
  every [] = true
  every (x ∷ xs) = if (f x) (every xs) false

  -- passed, it says so at each element
  pub every_all : (xs : List A) → every xs ≡ true → All (λ x. f x ≡ true) xs
  every_all [] e = tt
  every_all (x ∷ xs) e = elim (either (f x)) [
    | inl h ↦ (h, every_all xs (rw h at e))
    | inr h ↦ absurd (true≢false (sym (rw h at e)))
  ]

-- n numbers from b on
abbrev pub from : ℕ → ℕ → List ℕ
from b zero = []
from b (suc n) = b ∷ from (suc b) n

in_from : (b n k : ℕ) → b ≤ k → k < b + n → In k (from b n)
in_from b zero k l h = absurd (omega arith)
in_from b (suc n) k l h = elim (eqb_cases k b) [ inl p ↦ inl p.1 | inr p ↦ let d = p.1 in inr (in_from (suc b) n k (omega arith) (omega arith)) ]

-- a test over all bytes says so at each of them
pub every_byte : (f : ℕ → Bool) → every f (from 0 256) ≡ true → (b : ℕ) → b < 256 → f b ≡ true
every_byte f e b h = all_in (λ (k : ℕ). f k ≡ true) b (from 0 256) (every_all f (from 0 256) e) (in_from 0 256 b (omega arith) h)

within_ends : (first last b : ℕ) → within first last b ≡ true → (first ≤ b) × (b ≤ last)
within_ends first last b e = elim (either (leb first b)) [
  | inl h ↦ (leb→le first b (subst T (sym h) tt), leb→le b last (subst T (sym (rw h at e)) tt))
  | inr h ↦ absurd (true≢false (sym (rw h at e)))
]

-- THE CASE RULE

-- A to Z and C0 to DE; of these D7 is no letter, and separates as F7 does
abbrev pub capital : ℕ → Bool
capital b = if (within 0x41 0x5A b) true (within 0xC0 0xDE b)

capital_byte : (b : ℕ) → capital b ≡ true → b < 256
capital_byte b e = elim (either (within 0x41 0x5A b)) [
  | inl h ↦ let (l, m) = within_ends 0x41 0x5A b h in omega arith
  | inr h ↦ let (l, m) = within_ends 0xC0 0xDE b (rw h at e) in omega arith
]

abbrev small_alike : ℕ → Bool
small_alike b = if (capital b) (eqb (class (b + 0x20)) (class b)) true

whole_table : every small_alike (from 0 256) ≡ true
unfolding class
whole_table = refl

pub class_small : (b : ℕ) → capital b ≡ true → class (b + 0x20) ≡ class b
class_small b e = eqb_equal (class (b + 0x20)) (class b) (rw e at (every_byte small_alike whole_table b (capital_byte b e)))

-- THE HIGHEST CLASS

-- the classes that a range gives are below 42
abbrev under : Range → Bool
under (Range.alike first last c) = ltb c gap
under (Range.apart first last c) = ltb (c + (last - first)) gap

class_by_below : (rs : List Range) → All (λ r. under r ≡ true) rs → (b : ℕ) → class_by rs b < gap
unfolding class_by
class_by_below [] a b = omega arith
class_by_below (Range.alike first last c ∷ rs) (h, a) b = elim (either (within first last b)) [
  | inl e ↦ rw e (ltb_less c gap h)
  | inr e ↦ rw e (class_by_below rs a b)
]
class_by_below (Range.apart first last c ∷ rs) (h, a) b = elim (either (within first last b)) [
  | inl e ↦
      let (l, m) = within_ends first last b e in
      let k = ltb_less (c + (last - first)) gap h in
      rw e (omega arith)
  | inr e ↦ rw e (class_by_below rs a b)
]

pub class_below : (b : ℕ) → class b < gap
unfolding class
class_below b = class_by_below ranges (every_all under ranges refl) b
