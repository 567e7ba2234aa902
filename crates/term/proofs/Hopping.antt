-- Laws of passing terms by their sizes: one at a time, and to the arguments of a symbol. Assumes nothing.
use mathlib.Core.List.{List}
use mathlib.Core.Bool.{true}
use mathlib.Core.Path.{◌≡◌, refl, sym, ◌∙◌}
use Prim.Native.Nat.{ℕ, zero, suc, ◌+◌, ◌-◌, ◌≤◌, ◌<◌}
use native.Mathlib.Numerals.{add-one}
use native.Mathlib.Omega.{arith}
use lib.ListN.{length, get_or, drop}
use Rattle.flat.specs.Rules.{spells}
use Rattle.flat.specs.Sizes.{sizes, hop}
use Rattle.flat.specs.Symbols.{skip, argument}
use Rattle.flat.proofs.Sizes.{sizes_length, size_at, inside_arguments, hop_argument, hop_end}
use Rattle.symbol.specs.Record as R
use Rattle.symbol.proofs.Record as P
use Rattle.term.specs.Present.{Hops}

module _ (zs : List ℕ) where
  pub hop_none : (n p : ℕ) → n ≡ 0 → hop zs n p ≡ p
  unfolding hop
  hop_none n p e = rw e

  pub hop_next : (n p : ℕ) → 0 < n → hop zs n p ≡ hop zs (n - 1) (p + get_or zs p 0)
  unfolding hop
  hop_next zero p h = absurd (omega arith)
  hop_next (suc n) p h = let e : suc n - 1 ≡ n = omega arith in rw e

  pub hops_first : (n p : ℕ) → 0 < n → Hops zs n p → p < length zs
  hops_first zero p h t = absurd (omega arith)
  hops_first (suc n) p h t = t.0

  pub hops_next : (n p : ℕ) → 0 < n → Hops zs n p → Hops zs (n - 1) (p + get_or zs p 0)
  hops_next zero p h t = absurd (omega arith)
  hops_next (suc n) p h t = let e : suc n - 1 ≡ n = omega arith in rw e t.1

-- by the sizes of records: a term of size z is passed
pub passed : (xs : List ℕ) (n p z : ℕ) → 0 < n → z ≡ R.size (get_or xs p 0) → Hops (R.sizes xs) n p →
    (hop (R.sizes xs) n p ≡ hop (R.sizes xs) (n - 1) (p + z)) × Hops (R.sizes xs) (n - 1) (p + z)
passed xs n p z h e t = rw (e, ← P.size_at xs p) (hop_next (R.sizes xs) n p h, hops_next (R.sizes xs) n p h t)

-- the sizes zs are those of the term xs, from behind its symbol at offset a on
module _ (ar : ℕ → ℕ) (xs zs : List ℕ) (one : spells ar 1 xs ≡ true) (fits : length xs ≤ length zs) (a : ℕ) (l : a < length xs)
    (agree : (j : ℕ) → a < j → j < length xs → get_or zs j 0 ≡ skip ar 1 (drop j xs)) where
  same : (n p : ℕ) → a < p → Hops (sizes ar xs) n p → Hops zs n p × (hop zs n p ≡ hop (sizes ar xs) n p)
  unfolding hop
  same zero p k h = (tt, refl)
  same (suc n) p k h =
      let m : p < length xs = omega (arith, h.0, sizes_length ar xs) in
      let e : get_or zs p 0 ≡ get_or (sizes ar xs) p 0 = agree p k m ∙ sym (size_at ar xs p) in
      let (t, f) = same n (p + get_or (sizes ar xs) p 0) (omega arith) h.1 in
      rw e ((omega arith, t), f)

  -- its arguments can be passed, and then one stands at the next; behind the last its term ends
  module _ (i : ℕ) (h : i ≤ ar (get_or xs a 0)) where
    inside : Hops (sizes ar xs) i (a + 1)
    inside = rw (add-one a) (inside_arguments ar xs a i one l h)

    pub hops_arguments : Hops zs i (a + 1)
    hops_arguments = (same i (a + 1) (omega arith) inside).0

    pub hop_argument_is : hop zs i (a + 1) ≡ argument ar xs a i
    hop_argument_is = (same i (a + 1) (omega arith) inside).1 ∙ rw (add-one a) (hop_argument ar xs a i)

  -- where it has arguments, the first stands behind it
  pub first_inside : 0 < ar (get_or xs a 0) → a + 1 < length xs
  first_inside h = omega (arith, hops_first (sizes ar xs) (ar (get_or xs a 0)) (a + 1) h (inside (ar (get_or xs a 0)) (omega arith)), sizes_length ar xs)

  pub hop_end_is : hop zs (ar (get_or xs a 0)) (a + 1) ≡ a + skip ar 1 (drop a xs)
  hop_end_is = hop_argument_is (ar (get_or xs a 0)) (omega arith) ∙ sym (hop_argument ar xs a (ar (get_or xs a 0))) ∙ hop_end ar xs a l
