-- Laws of the sizes put right: of one record, and of all records before an offset as a list. Assumes nothing.
use mathlib.Core.Bool.{Bool, true, false}
use mathlib.Core.List.{List, [], ◌∷◌}
use mathlib.Core.Path.{◌≡◌, refl, ap, ap₂}
use Prim.Native.Nat.{ℕ, zero, suc, ◌+◌, ◌-◌, ◌≤◌, ◌<◌}
use native.Mathlib.Nat.{zero-add, add-zero, add-suc, suc-add}
use native.Mathlib.Omega.{arith}
use borrow.Author.Tests.{lt-ltb, le-ltb}
use lib.Dec.{ltb}
use lib.ListN.{length, get_or, take, drop, length-drop}
use lib.Seq.{get_or-drop, ext_get_or}
use Rattle.flat.specs.Sizes.{grown, grow}
use Rattle.symbol.specs.Record.{operator, marked, size, operators, marks, sizes}
use Rattle.splice.specs.Promises.{Regrown, GrownBefore}

-- a record takes the difference if its term ends behind offset a
pub takes : {a e n i x r : ℕ} → a < i + size x → e - a ≤ size x → operator r ≡ operator x → size r ≡ size x - (e - a) + n → marked r ≡ marked x →
    Regrown a e n i x r
unfolding grown
takes {a} {e} {n} {i} {x} h l o z m = record { operator_is = o; marked_is = m; size_is = rw (lt-ltb a (i + size x) h, grown) (omega arith) }

pub stays : {a e n i x : ℕ} → i + size x ≤ a → Regrown a e n i x x
unfolding grown
stays {a} {e} {n} {i} {x} h = record { operator_is = refl; marked_is = refl; size_is = rw (le-ltb a (i + size x) h, grown) }

-- no size changes where as many symbols come as go
pub none_grown : (a e n : ℕ) (xs : List ℕ) → a + n ≡ e → GrownBefore a e n xs xs
unfolding grown
none_grown a e n xs h =
    record {
      before = λ i l. record { operator_is = refl; marked_is = refl; size_is = go (size (get_or xs i 0)) (ltb a (i + size (get_or xs i 0))) };
      behind = λ i l. refl;
      long = refl;
    }
  where
    go : (z : ℕ) (b : Bool) → z ≡ elim b as (λ c. ℕ) [ true ↦ z + n - (e - a) | false ↦ z ]
    go z true = omega arith
    go z false = refl

-- ys are the symbols xs, which stand from offset k on, each put right
pub record AllRegrown (a e n k : ℕ) (xs ys : List ℕ) : Type 0 where
  pub operators_are : operators ys ≡ operators xs
  pub marks_are : marks ys ≡ marks xs
  pub sizes_are : sizes ys ≡ grow a e n k (sizes xs)

-- so the first m symbols
front : (a e n k m : ℕ) (xs ys : List ℕ) → m ≤ length xs → m ≤ length ys → ((i : ℕ) → i < m → Regrown a e n (k + i) (get_or xs i 0) (get_or ys i 0)) →
    AllRegrown a e n k (take m xs) (take m ys)
unfolding grow
front a e n k zero xs ys h l r = record { operators_are = refl; marks_are = refl; sizes_are = refl }
front a e n k (suc m) [] ys h l r = absurd (omega arith)
front a e n k (suc m) (x ∷ xs) [] h l r = absurd (omega arith)
front a e n k (suc m) (x ∷ xs) (y ∷ ys) h l r =
    let z : Regrown a e n k x y = rw add-zero at (r 0 (omega arith)) in
    let w = front a e n (suc k) m xs ys (omega arith) (omega arith) (λ i j. rw (suc-add, ← add-suc) (r (suc i) (omega arith))) in
    record {
      operators_are = ap₂ (λ (u : ℕ) (us : List ℕ). u ∷ us) z.operator_is w.operators_are;
      marks_are = ap₂ (λ (u : Bool) (us : List Bool). u ∷ us) z.marked_is w.marks_are;
      sizes_are = ap₂ (λ (u : ℕ) (us : List ℕ). u ∷ us) z.size_is w.sizes_are;
    }

module _ {a e n : ℕ} {xs ys : List ℕ} (g : GrownBefore a e n xs ys) where
  pub before_are : a ≤ length xs → AllRegrown a e n 0 (take a xs) (take a ys)
  before_are h = front a e n 0 a xs ys h (let l = g.long in omega arith) (λ i j. rw zero-add (g.before i j))

  pub behind_are : (k : ℕ) → a ≤ k → drop k ys ≡ drop k xs
  behind_are k h =
      ext_get_or 0 (drop k ys) (drop k xs) (simp length-drop (ap (λ (l : ℕ). l - k) g.long))
      (λ i l. rw (get_or-drop k ys i 0, get_or-drop k xs i 0) (g.behind (k + i) (omega arith)))
