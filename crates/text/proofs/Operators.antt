-- Laws of the check of operators 0 to 42, one at a time. Assumes nothing.
use mathlib.Core.Bool.{true, false}
use mathlib.Core.Path.{◌≡◌}
use Prim.Native.Nat.{ℕ, zero, suc, ◌+◌, ◌-◌, ◌≤◌, ◌<◌}
use native.Mathlib.Numerals.{add-one}
use native.Mathlib.Omega.{arith}
use borrow.Author.Tests.{lt-ltb, le-ltb, eq-eqb, ne_eqb}
use Rattle.paper.specs.Text.{one_argument, has_classes}

module _ (n : ℕ) (arity : ℕ → ℕ) where
  pub few : n < 43 → has_classes n arity ≡ false
  unfolding has_classes
  few h = rw (lt-ltb n 43 h)

  pub end_other : 43 ≤ n → (arity 0 ≡ 0 → ⊥) → has_classes n arity ≡ false
  unfolding has_classes
  end_other h d = rw (le-ltb n 43 h, ne_eqb (arity 0) 0 d)

  pub end_none : 43 ≤ n → arity 0 ≡ 0 → has_classes n arity ≡ one_argument arity 42 1
  unfolding has_classes
  end_none h e = rw (le-ltb n 43 h, eq-eqb (arity 0) 0 e)

module _ (arity : ℕ → ℕ) (o : ℕ) where
  class_other_of : (m : ℕ) → 0 < m → (arity o ≡ 1 → ⊥) → one_argument arity m o ≡ false
  unfolding one_argument
  class_other_of zero h d = absurd (omega arith)
  class_other_of (suc m) h d = rw (ne_eqb (arity o) 1 d)

  class_one_of : (m m' : ℕ) → m ≡ suc m' → arity o ≡ 1 → one_argument arity m o ≡ one_argument arity m' (o + 1)
  unfolding one_argument
  class_one_of m m' e a = rw (e, add-one) (rw (eq-eqb (arity o) 1 a, one_argument))

  pub class_other : o < 43 → (arity o ≡ 1 → ⊥) → one_argument arity (43 - o) o ≡ false
  class_other h d = class_other_of (43 - o) (omega arith) d

  pub class_one : o < 43 → arity o ≡ 1 → one_argument arity (43 - o) o ≡ one_argument arity (43 - (o + 1)) (o + 1)
  class_one h a = class_one_of (43 - o) (43 - (o + 1)) (omega arith) a

  pub class_all : 43 ≤ o → one_argument arity (43 - o) o ≡ true
  unfolding one_argument
  class_all h = let e : 43 - o ≡ 0 = omega arith in rw e
