-- Laws of the schedule's check. Assumes nothing.
use mathlib.Core.Bool.{Bool, true, false}
use mathlib.Core.List.{List, [], ◌∷◌}
use mathlib.Core.Path.{◌≡◌, refl, sym, ◌∙◌}
use Prim.Native.Nat.{ℕ, suc, ◌+◌, ◌≤◌, ◌<◌}
use native.Mathlib.Numerals.{add-one}
use native.Mathlib.Omega.{arith}
use lib.Dec.{ltb}
use lib.ListN.{length, get_or, drop, drop_of_length-le}
use lib.Seq.{drop-cons}
use borrow.Author.Tests.{lt-ltb, le-ltb, ltb-true, ltb-false}
use Rattle.paper.specs.Page.{all_below}
use Rattle.paper.specs.Sound.{All}

module _ (u : ℕ) where
  below : (x : ℕ) (xs : List ℕ) → x < u → all_below u (x ∷ xs) ≡ all_below u xs
  unfolding all_below
  below x xs h = rw (lt-ltb x u h, all_below)

  above : (x : ℕ) (xs : List ℕ) → u ≤ x → all_below u (x ∷ xs) ≡ false
  unfolding all_below
  above x xs h = rw (le-ltb x u h, all_below)

  pub names_none : (xs : List ℕ) → 0 < u → all_below u xs ≡ all_below u (0 ∷ xs)
  names_none xs h = sym (below 0 xs h)

  -- the largest so far stands for those before
  larger_of : (x y r : ℕ) (xs : List ℕ) → x ≤ r → y ≤ r → (x < u → y < u → r < u) → all_below u (x ∷ y ∷ xs) ≡ all_below u (r ∷ xs)
  larger_of x y r xs h k g = go (ltb x u) refl (ltb y u) refl
    where
      go : (b : Bool) → ltb x u ≡ b → (c : Bool) → ltb y u ≡ c → all_below u (x ∷ y ∷ xs) ≡ all_below u (r ∷ xs)
      go true e true f =
          let p = ltb-true x u e in
          let q = ltb-true y u f in
          below x (y ∷ xs) p ∙ below y xs q ∙ sym (below r xs (g p q))
      go true e false f = let q = ltb-false y u f in below x (y ∷ xs) (ltb-true x u e) ∙ above y xs q ∙ sym (above r xs (omega arith))
      go false e c f = let p = ltb-false x u e in above x (y ∷ xs) p ∙ sym (above r xs (omega arith))

  pub names_more : (l : List ℕ) (i x r : ℕ) → i < length l → x ≤ r → get_or l i 0 ≤ r → (x < u → get_or l i 0 < u → r < u) →
      all_below u (x ∷ drop i l) ≡ all_below u (r ∷ drop (i + 1) l)
  names_more l i x r h p q g = rw (drop-cons l i 0 h, add-one) (larger_of x (get_or l i 0) r (drop (suc i) l) p q g)

  pub names_all : (l : List ℕ) (i x : ℕ) → length l ≤ i → ltb x u ≡ all_below u (x ∷ drop i l)
  unfolding all_below
  names_all l i x h = rw (drop_of_length-le l h) (go (ltb x u) refl)
    where
      go : (b : Bool) → ltb x u ≡ b → ltb x u ≡ all_below u (x ∷ [])
      go true e = rw (e, all_below)
      go false e = rw (e, all_below)

  pub named : (xs : List ℕ) → all_below u xs ≡ true → All (λ v. v < u) xs
  unfolding all_below
  named [] e = tt
  named (x ∷ xs) e = go (ltb x u) refl (named xs)
    where
      go : (b : Bool) → ltb x u ≡ b → (all_below u xs ≡ true → All (λ v. v < u) xs) → All (λ v. v < u) (x ∷ xs)
      go true f rest = let h = ltb-true x u f in (h, rest (sym (below x xs h) ∙ e))
      go false f rest =
          let z : ◌≡◌ {A = Bool} false true = sym (above x xs (ltb-false x u f)) ∙ e in
          absurd (let w : ◌≡◌ {A = ℕ} 0 1 = cc in omega arith)
