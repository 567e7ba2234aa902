-- Laws of tests: those of `and` and `or`, and of a test of each number below another, from the highest down. Assumes nothing.
use mathlib.Core.Bool.{Bool, true, false}
use mathlib.Core.Path.{◌≡◌, refl, sym, ap, ap₂, ◌∙◌}
use Prim.Native.Nat.{ℕ, zero, suc, ◌+◌, ◌<◌}
use native.Mathlib.Omega.{arith}
use native.Mathlib.Decide.{ℕ_discrete}
use native.Mathlib.Numerals.{add-one}
use Rattle.flat.specs.Tested.{and, or, each_below}

pub and_true : (a : Bool) → and a true ≡ a
unfolding and
and_true true = refl
and_true false = refl

pub and_false : (a : Bool) → and a false ≡ false
unfolding and
and_false true = refl
and_false false = refl

pub or_true : (a : Bool) → or a true ≡ true
unfolding or
or_true true = refl
or_true false = refl

-- the first of four comes before the last
pub and_later : (a b c d : Bool) → and a (and b (and c d)) ≡ and b (and c (and a d))
unfolding and
and_later true b c d = refl
and_later false true true d = refl
and_later false true false d = refl
and_later false false c d = refl

pub below_same : (f g : ℕ → Bool) (n : ℕ) → ((v : ℕ) → v < n → f v ≡ g v) → each_below f n ≡ each_below g n
unfolding each_below
below_same f g zero e = refl
below_same f g (suc n) e = ap₂ and (e n (omega arith)) (below_same f g n (λ v l. e v (omega arith)))

pub below_false : (f : ℕ → Bool) (n v : ℕ) → v < n → f v ≡ false → each_below f n ≡ false
unfolding each_below and
below_false f zero v l e = absurd (omega arith)
below_false f (suc n) v l e =
    elim (ℕ_discrete v n) [
      | yes d ↦ ap (λ (b : Bool). and b (each_below f n)) (ap f (sym d) ∙ e)
      | no d ↦ ap (and (f n)) (below_false f n v (omega arith) e) ∙ and_false (f n)
    ]

-- the highest number is tried, and it is true or not; none is left
module _ (f : ℕ → Bool) (m k : ℕ) where
  pub below_next : m ≡ k + 1 → f k ≡ true → each_below f m ≡ each_below f k
  unfolding each_below and
  below_next e d = ap (each_below f) (e ∙ add-one k) ∙ ap (λ (b : Bool). and b (each_below f k)) d

  pub below_stop : m ≡ k + 1 → f k ≡ false → each_below f m ≡ false
  unfolding each_below and
  below_stop e d = ap (each_below f) (e ∙ add-one k) ∙ ap (λ (b : Bool). and b (each_below f k)) d

pub below_end : (f : ℕ → Bool) (m : ℕ) → m ≡ 0 → each_below f m ≡ true
unfolding each_below
below_end f m e = ap (each_below f) e
