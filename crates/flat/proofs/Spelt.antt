-- Symbols that spell a term are a term's in preorder, and it has the right arities. Assumes nothing.
use mathlib.Core.Bool.{true, false≢true}
use mathlib.Core.List.{List, [], ◌∷◌, ◌++◌, append_assoc, append-nil}
use mathlib.Core.Path.{◌≡◌, refl, sym, ◌∙◌, ap, ap₂}
use Prim.Native.Nat.{ℕ, zero, suc, ◌+◌}
use native.Mathlib.Omega.{arith}
use Rattle.paper.specs.Tree.{node, Forest, nil, cons, count, preorder, preorders, Correct, Corrects}
use Rattle.paper.specs.Book.{Term}
use Rattle.flat.specs.Rules.{spells}

module _ (ar : ℕ → ℕ) where
  abbrev Forests : ℕ → List ℕ → Type 0
  Forests n xs = (ts : Forest ℕ) × (count ts ≡ n) × (preorders ts ≡ xs) × Corrects ar ts

  -- the first m of a forest's trees, and the others
  split : (m n : ℕ) (xs : List ℕ) → Forests (m + n) xs → (ys : List ℕ) × (zs : List ℕ) × Forests m ys × Forests n zs × (xs ≡ ys ++ zs)
  unfolding count preorders
  split zero n xs (ts, c, e, k) = ([], xs, (nil, refl, refl, tt), (ts, omega (arith, c), e, k), refl)
  split (suc m) n xs (nil, c, e, k) = absurd (omega (arith, c))
  split (suc m) n xs (cons t ts, c, e, k) =
      let (ys, zs, (us, cu, eu, ku), r, q) = split m n (preorders ts) (ts, omega (arith, c), refl, k.1) in (
        preorder t ++ ys,
        zs,
        (cons t us, ap suc cu, ap (λ (z : List ℕ). preorder t ++ z) eu, (k.0, ku)),
        r,
        sym e ∙ ap (λ (z : List ℕ). preorder t ++ z) q ∙ sym (append_assoc (preorder t) ys zs),
      )

  spelt_forest : (xs : List ℕ) (n : ℕ) → spells ar n xs ≡ true → Forests n xs
  unfolding spells count preorders preorder
  spelt_forest [] zero e = (nil, refl, refl, tt)
  spelt_forest [] (suc n) e = absurd (false≢true e)
  spelt_forest (x ∷ xs) zero e = absurd (false≢true e)
  spelt_forest (x ∷ xs) (suc n) e =
      let (ys, zs, (us, cu, eu, ku), (vs, cv, ev, kv), q) = split (ar x) n xs (spelt_forest xs (ar x + n) e) in (
        cons (node x us) vs,
        ap suc cv,
        ap₂ (λ (a b : List ℕ). x ∷ (a ++ b)) eu ev ∙ ap (λ (z : List ℕ). x ∷ z) (sym q),
        ((cu, ku), kv),
      )

  pub spelt_term : (xs : List ℕ) → spells ar 1 xs ≡ true → (t : Term) × (xs ≡ preorder t) × Correct ar t
  unfolding count preorders
  spelt_term xs e = go (spelt_forest xs 1 e)
    where
      go : Forests 1 xs → (t : Term) × (xs ≡ preorder t) × Correct ar t
      go (nil, c, q, k) = absurd (omega (arith, c))
      go (cons t nil, c, q, k) = (t, sym q ∙ append-nil (preorder t), k.0)
      go (cons t (cons u ts), c, q, k) = absurd (omega (arith, c))
