-- The decimal digits of a number, from the last to the first, and the fields of a line. Assumes nothing.
use mathlib.Core.List.{List, [], ◌∷◌, ◌++◌, append-nil}
use mathlib.Core.Path.{◌≡◌, refl, sym, ap, ap₂, ◌∙◌}
use Prim.Native.Nat.{ℕ, suc, ◌+◌, ◌/◌, ◌%◌, ◌≤◌, ◌<◌}
use native.Mathlib.Omega.{arith}
use native.Mathlib.Decide.{dec_lt}
use native.Mathlib.Numerals.{add-one}
use borrow.Author.Tests.{lt-ltb, le-ltb}
use lib.ListN.{length, get_or, set, drop, drop_of_length-le}
use lib.Seq.{drop-cons}
use Rattle.paper.specs.Page.{digits, decimal, spaced, line}
use Rattle.stream.proofs.Puts.{drop_set}
use Rattle.page.specs.Promises.{decimal_field}

digits_last : (n v : ℕ) (ds : List ℕ) → v < 10 → digits (suc n) v ds ≡ (48 + v) ∷ ds
unfolding digits
digits_last n v ds h = rw (lt-ltb v 10 h, digits)

digits_more : (n v : ℕ) (ds : List ℕ) → 10 ≤ v → digits (suc n) v ds ≡ digits n (v / 10) ((48 + v % 10) ∷ ds)
unfolding digits
digits_more n v ds h = rw (le-ltb v 10 h, digits)

-- a digit stored before those that are there
module _ (i j v : ℕ) (d : List ℕ) {x : ℕ} (e : i ≡ suc j) (h : j < length d) where
  pub digit_last : v < 10 → x ≡ v → drop j (set d j (48 + x)) ≡ digits i v (drop i d)
  digit_last k f =
      drop_set d j (48 + x) h
      ∙ ap (λ (y : ℕ). (48 + y) ∷ drop (suc j) d) f
      ∙ sym (digits_last j v (drop (suc j) d) k)
      ∙ ap (λ (n : ℕ). digits n v (drop n d)) (sym e)

  pub digit_more : 10 ≤ v → x ≡ v % 10 → digits j (v / 10) (drop j (set d j (48 + x))) ≡ digits i v (drop i d)
  digit_more k f =
      ap (λ (ds : List ℕ). digits j (v / 10) ds) (drop_set d j (48 + x) h ∙ ap (λ (y : ℕ). (48 + y) ∷ drop (suc j) d) f)
      ∙ sym (digits_more j v (drop (suc j) d) k)
      ∙ ap (λ (n : ℕ). digits n v (drop n d)) (sym e)

pub digits_start : (v : ℕ) (d : List ℕ) → length d ≡ 20 → digits 20 v (drop 20 d) ≡ decimal v
unfolding decimal
digits_start v d h = ap (digits 20 v) (drop_of_length-le d {i = 20} (omega arith))

pub digits_none : (i v : ℕ) (d : List ℕ) → i ≡ 0 → drop i d ≡ digits i v (drop i d)
unfolding digits
digits_none i v d e = ap (λ (n : ℕ). drop n d) e ∙ sym (ap (λ (n : ℕ). digits n v (drop n d)) e)

-- a byte has at most three digits
short_last : (n v : ℕ) (ds : List ℕ) → v < 10 → length (digits (suc n) v ds) ≤ suc (length ds)
short_last n v ds h = omega (arith, ap length (digits_last n v ds h))

short_two : (n v : ℕ) (ds : List ℕ) → v < 100 → length (digits (suc (suc n)) v ds) ≤ suc (suc (length ds))
short_two n v ds h = go (dec_lt v 10)
  where
    go : Dec (v < 10) → length (digits (suc (suc n)) v ds) ≤ suc (suc (length ds))
    go (yes k) = omega (arith, short_last (suc n) v ds k)
    go (no k) =
        omega (arith, ap length (digits_more (suc n) v ds (omega arith)), short_last n (v / 10) ((48 + v % 10) ∷ ds) (omega arith))

decimal_short : (v : ℕ) → v < 1000 → length (decimal v) ≤ 3
unfolding decimal
decimal_short v h = go (dec_lt v 10)
  where
    go : Dec (v < 10) → length (digits 20 v []) ≤ 3
    go (yes k) = omega (arith, short_last 19 v [] k)
    go (no k) = omega (arith, ap length (digits_more 19 v [] (omega arith)), short_two 17 (v / 10) ((48 + v % 10) ∷ []) (omega arith))

-- FIELDS

pub field_short : (v : ℕ) → v < 256 → length (decimal_field v) ≤ 4
field_short v h = omega (arith, decimal_short v (omega arith))

-- the symbols from i on: one field and the symbols behind it
pub spaced_more : (term : List ℕ) (i v : ℕ) → i < length term → v ≡ get_or term i 0 → decimal_field v ++ spaced (drop (i + 1) term) ≡ spaced (drop i term)
unfolding spaced
spaced_more term i v h e =
    ap₂ (λ (x k : ℕ). decimal_field x ++ spaced (drop k term)) e (add-one i) ∙ ap spaced (sym (drop-cons term i 0 h))

pub spaced_end : (term : List ℕ) (i : ℕ) → length term ≤ i → [] ≡ spaced (drop i term)
unfolding spaced
spaced_end term i h = ap spaced (sym (drop_of_length-le term h))

-- a line of one field, and a line of symbols
pub one_field : (word : List ℕ) (v : ℕ) → word ++ (decimal_field v ++ (10 ∷ [])) ≡ line word (v ∷ [])
unfolding line spaced
one_field word v = ap (λ (l : List ℕ). word ++ (32 ∷ l ++ (10 ∷ []))) (sym (append-nil (decimal v)))

pub all_fields : (word vs : List ℕ) → word ++ (spaced vs ++ (10 ∷ [])) ≡ line word vs
unfolding line
all_fields word vs = refl
