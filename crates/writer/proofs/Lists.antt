-- Settled lists as numbers: the test for the default number by number, and the numbers written one by one. Assumes nothing.
use mathlib.Core.Bool.{Bool, true, false}
use mathlib.Core.List.{List, [], ◌∷◌, ◌++◌}
use mathlib.Core.Path.{◌≡◌, refl, sym, ap, ap₂, ◌∙◌}
use Prim.Native.Nat.{ℕ, zero, suc, ◌+◌, ◌%◌, ◌≤◌, ◌<◌}
use native.Mathlib.Numerals.{add-one}
use native.Mathlib.Omega.{arith}
use borrow.Author.Tests.{eq-eqb, ne_eqb}
use lib.Dec.{eqb}
use lib.ListN.{length, get_or, take, drop, drop_of_length-le}
use lib.Seq.{length-take-le, drop-cons, get_or-take}
use Rattle.paper.specs.Result.{if}
use Rattle.paper.specs.Bits.{to_bits}
use Rattle.paper.specs.Strategy.{upward, default}
use Rattle.paper.specs.Writer.{concat, numbers, same}
use Rattle.writer.specs.Promises.{list_bits}
use Rattle.writer.proofs.Puts.{to_bits_low}

same_cons : (x y : ℕ) (xs ys : List ℕ) → same (x ∷ xs) (y ∷ ys) ≡ if (eqb x y) (same xs ys) false
unfolding same
same_cons x y xs ys = go (eqb x y)
  where
    go : (b : Bool) → elim b [ true ↦ same xs ys | false ↦ false ] ≡ if b (same xs ys) false
    go true = refl
    go false = refl

-- lists of unequal lengths are not the same
same_short : (xs ys : List ℕ) → (length xs ≡ length ys → ⊥) → same xs ys ≡ false
unfolding same
same_short [] [] h = absurd (h refl)
same_short [] (y ∷ ys) h = refl
same_short (x ∷ xs) [] h = refl
same_short (x ∷ xs) (y ∷ ys) h = same_cons x y xs ys ∙ go (eqb x y) (same_short xs ys (λ e. h (ap suc e)))
  where
    go : (b : Bool) → same xs ys ≡ false → if b (same xs ys) false ≡ false
    go true e = e
    go false e = refl

upward_length : (i n : ℕ) → length (numbers (upward i n)) ≡ n + 1
unfolding upward numbers
upward_length i zero = refl
upward_length i (suc n) = ap suc (upward_length (suc i) n) ∙ omega arith

module _ (items : List ℕ) (len : ℕ) (full : length items ≡ 32) (l : len ≤ 31) where
  taken : length (take len items) ≡ len
  taken = length-take-le len items (omega arith)

  -- the number at i and those behind it
  pub next_number : (i : ℕ) → i < len → drop i (take len items) ≡ get_or items i 0 ∷ drop (i + 1) (take len items)
  next_number i h =
      let t = taken in
      drop-cons (take len items) i 0 (omega arith)
      ∙ ap₂ (λ (x k : ℕ). x ∷ drop k (take len items)) (get_or-take len items i 0 h) (sym (add-one i))

  -- The default

  -- are the numbers from i on those of the default, of which k arguments are to come?
  abbrev pub tail_same : ℕ → ℕ → Bool
  tail_same i k = same (drop i (take len items)) (numbers (upward i k))

  pub default_short : (arity : ℕ) → (len ≡ arity + 1 → ⊥) → same (take len items) (numbers (default arity)) ≡ false
  unfolding default
  default_short arity h = let t = taken in let u = upward_length 0 arity in same_short (take len items) (numbers (upward 0 arity)) (λ e. h (omega arith))

  pub default_start : (arity k : ℕ) → k ≡ arity → same (take len items) (numbers (default arity)) ≡ tail_same 0 k
  unfolding default
  default_start arity k e = ap (λ (j : ℕ). same (take len items) (numbers (upward 0 j))) (sym e)

  module _ (i k : ℕ) (h : i < len) where
    step : (k' : ℕ) → k ≡ suc k' → tail_same i k ≡ if (eqb (get_or items i 0) (i + 1)) (tail_same (i + 1) k') false
    unfolding upward numbers
    step k' e =
        ap₂ (λ (xs : List ℕ) (j : ℕ). same xs (numbers (upward i j))) (next_number i h) e
        ∙ same_cons (get_or items i 0) (suc i) (drop (i + 1) (take len items)) (numbers (upward (suc i) k'))
        ∙ ap (λ (j : ℕ). if (eqb (get_or items i 0) j) (same (drop (i + 1) (take len items)) (numbers (upward j k'))) false) (sym (add-one i))

    pub default_more : (k' : ℕ) → k ≡ suc k' → get_or items i 0 ≡ i + 1 → tail_same i k ≡ tail_same (i + 1) k'
    default_more k' e f = step k' e ∙ rw (eq-eqb (get_or items i 0) (i + 1) f)

    pub default_differs : (k' : ℕ) → k ≡ suc k' → (get_or items i 0 ≡ i + 1 → ⊥) → tail_same i k ≡ false
    default_differs k' e f = step k' e ∙ rw (ne_eqb (get_or items i 0) (i + 1) f)

    -- the last number is 0
    pub default_last : (n : ℕ) → k ≡ 0 → i ≡ n → len ≡ i + 1 → tail_same i k ≡ eqb (get_or items n 0) 0
    unfolding upward numbers same
    default_last n e d f =
        let t = taken in
        ap₂ (λ (xs : List ℕ) (j : ℕ). same xs (numbers (upward i j)))
        (next_number i h ∙ ap (λ (xs : List ℕ). get_or items i 0 ∷ xs) (drop_of_length-le (take len items) {i = i + 1} (omega arith))) e
        ∙ same_cons (get_or items i 0) 0 [] []
        ∙ go (eqb (get_or items i 0) 0)
        ∙ ap (λ (j : ℕ). eqb (get_or items j 0) 0) d
      where
        go : (b : Bool) → if b (same [] []) false ≡ b
        go true = refl
        go false = refl

  -- The numbers written

  pub items_more : (i v : ℕ) → i < len → v ≡ get_or items i 0 % 16 →
      to_bits 4 v ++ concat (to_bits 4) (drop (i + 1) (take len items)) ≡ concat (to_bits 4) (drop i (take len items))
  unfolding concat
  items_more i v h e =
      ap (λ (xs : List ℕ). xs ++ concat (to_bits 4) (drop (i + 1) (take len items))) (ap (to_bits 4) e ∙ to_bits_low 4 (get_or items i 0))
      ∙ ap (concat (to_bits 4)) (sym (next_number i h))

  pub items_end : (i : ℕ) → len ≤ i → [] ≡ concat (to_bits 4) (drop i (take len items))
  unfolding concat
  items_end i h = let t = taken in ap (concat (to_bits 4)) (sym (drop_of_length-le (take len items) {i = i} (omega arith)))

  -- a list that is the default, and one that is not
  module _ (arity : ℕ) where
    pub bits_of_default : same (take len items) (numbers (default arity)) ≡ true → to_bits 1 0 ≡ list_bits arity (take len items)
    unfolding list_bits
    bits_of_default e = rw e

    pub bits_of_list : (v : ℕ) → v ≡ len → same (take len items) (numbers (default arity)) ≡ false →
        to_bits 1 1 ++ (to_bits 5 v ++ concat (to_bits 4) (take len items)) ≡ list_bits arity (take len items)
    unfolding list_bits
    bits_of_list v e f = rw (f, taken, e)
