-- A side's codes stand for its symbols; and a side filled spells as many terms as it has. Assumes nothing.
use mathlib.Core.Bool.{true}
use mathlib.Core.List.{List, [], ◌∷◌, ◌++◌, append-nil}
use mathlib.Core.Path.{◌≡◌, refl, sym, ap, subst}
use Prim.Native.Nat.{ℕ, zero, suc, ◌+◌, ◌≤◌, ◌<◌}
use native.Mathlib.Nat.{zero-add}
use native.Mathlib.Numerals.{one-add}
use native.Mathlib.Omega.{arith}
use lib.ListN.{length, get_or, drop, length-append}
use Rattle.paper.specs.Tree.{Complete}
use Rattle.paper.specs.Book.{Symbol}
use Rattle.paper.specs.Sound.{All}
use Rattle.flat.specs.Rules.{spells}
use Rattle.flat.specs.Symbols.{Binding, fill_over, fill, symbols_in}
use Rattle.flat.proofs.Sizes.{spells_append, spells_part}
use Rattle.tables.specs.Layout.{arity_in}
use Rattle.rule.specs.Packed.{arity_of_symbol, BoundTerm}
use Rattle.fill.specs.Sides.{code, symbol}

-- CODES

pub symbol_code : (s : Symbol) → symbol (code s) ≡ s
symbol_code (Symbol.operator o) = refl
symbol_code (Symbol.variable v) = refl

-- FILLING

module _ {A : Type 0} (new : ℕ → A) (b : Binding) (xs : List A) where
  pub fill_cons : (s : Symbol) (ss : List Symbol) → fill_over new (s ∷ ss) b xs ≡ fill_over new (s ∷ []) b xs ++ fill_over new ss b xs
  unfolding fill_over
  fill_cons (Symbol.operator o) ss = refl
  fill_cons (Symbol.variable v) ss = ap (λ (l : List A). l ++ fill_over new ss b xs) (sym (append-nil (symbols_in (b v) xs)))

  -- what is filled of a suffix is at most the whole
  pub fill_suffix : (i : ℕ) (ss : List Symbol) → length (fill_over new (drop i ss) b xs) ≤ length (fill_over new ss b xs)
  fill_suffix zero ss = omega arith
  fill_suffix (suc i) [] = omega arith
  fill_suffix (suc i) (s ∷ ss) =
      omega (arith, fill_suffix i ss, length-append (fill_over new (s ∷ []) b xs) (fill_over new ss b xs), ap length (fill_cons s ss))

module _ (b : Binding) (xs operators : List ℕ) (one : spells (arity_in operators) 1 xs ≡ true) where
  -- the symbols of n terms, filled, are n terms
  pub fill_spells : (ss : List Symbol) (n : ℕ) → Complete (arity_of_symbol operators) n ss → All (BoundTerm (arity_in operators) xs b) ss →
      spells (arity_in operators) n (fill ss b xs) ≡ true
  unfolding fill_over spells
  fill_spells [] zero c a = refl
  fill_spells [] (suc n) c a = absurd c
  fill_spells (s ∷ ss) zero c a = absurd c
  fill_spells (Symbol.operator o ∷ ss) (suc n) c a = fill_spells ss (arity_in operators o + n) c a.1
  fill_spells (Symbol.variable v ∷ ss) (suc n) c a =
      let (l, e) = a.0 in
      let part : List ℕ = symbols_in (b v) xs in
      subst (λ (k : ℕ). spells (arity_in operators) k (part ++ fill ss b xs) ≡ true) (one-add n)
      (spells_append (arity_in operators) part (fill ss b xs) 1 n (rw e (spells_part (arity_in operators) xs (b v).start one l))
      (fill_spells ss n (subst (λ (d : ℕ). Complete (arity_of_symbol operators) d ss) (zero-add n) c) a.1))

  -- behind a symbol its arguments, filled, and some more terms
  pub behind_spells : (ss : List Symbol) (n i : ℕ) (d : Symbol) → Complete (arity_of_symbol operators) n ss → All (BoundTerm (arity_in operators) xs b) ss →
      i < length ss → (m : ℕ) × (spells (arity_in operators) (arity_of_symbol operators (get_or ss i d) + m) (fill (drop (suc i) ss) b xs) ≡ true)
  behind_spells [] n i d c a l = absurd (omega arith)
  behind_spells (s ∷ ss) zero i d c a l = absurd c
  behind_spells (s ∷ ss) (suc n) zero d c a l = (n, fill_spells ss (arity_of_symbol operators s + n) c a.1)
  behind_spells (s ∷ ss) (suc n) (suc i) d c a l = behind_spells ss (arity_of_symbol operators s + n) i d c a.1 (omega arith)
