-- The book's operators give the same by the table's arities as by the book's. Assumes nothing.
use mathlib.Core.List.{List, [], ◌∷◌}
use mathlib.Core.Path.{◌≡◌, ap}
use Prim.Native.Nat.{ℕ, zero, suc, ◌+◌, ◌<◌}
use lib.ListN.{length, drop}
use Rattle.paper.specs.Book.{Book, arity}
use Rattle.paper.specs.Sound.{All}
use Rattle.flat.specs.Rules.{spells}
use Rattle.flat.specs.Sizes.{sizes}
use Rattle.flat.specs.Symbols.{skip, argument}
use Rattle.flat.proofs.Sizes.{sizes_same, spells_same}
pub use Rattle.flat.proofs.Sizes.{skip_same}
use Rattle.tables.specs.Layout.{arity_in}
use Rattle.tables.specs.Tables.{Operators}

all_drop : {A : Type 0} (P : A → Type 0) (i : ℕ) (l : List A) → All P l → All P (drop i l)
all_drop P zero l a = a
all_drop P (suc i) [] a = tt
all_drop P (suc i) (x ∷ xs) a = all_drop P i xs a.1

module _ (B : Book) {operators : List ℕ} (t : Operators B.operators operators) where
  pub known_arities : (l : List ℕ) → All (λ o. o < length B.operators) l → All (λ o. arity_in operators o ≡ arity B o) l
  known_arities [] a = tt
  known_arities (x ∷ xs) a = ((t.each x a.0).arity_is, known_arities xs a.1)

  pub skip_book : (k : ℕ) (l : List ℕ) → All (λ o. o < length B.operators) l → skip (arity_in operators) k l ≡ skip (arity B) k l
  skip_book k l a = skip_same (arity_in operators) (arity B) k l (known_arities l a)

  pub argument_book : (l : List ℕ) (at i : ℕ) → All (λ o. o < length B.operators) l → argument (arity_in operators) l at i ≡ argument (arity B) l at i
  unfolding argument
  argument_book l at i a = ap (λ (k : ℕ). suc at + k) (skip_book i (drop (suc at) l) (all_drop _ (suc at) l a))

  pub sizes_book : (l : List ℕ) → All (λ o. o < length B.operators) l → sizes (arity_in operators) l ≡ sizes (arity B) l
  sizes_book l a = sizes_same (arity_in operators) (arity B) l (known_arities l a)

  pub spells_book : (n : ℕ) (l : List ℕ) → All (λ o. o < length B.operators) l → spells (arity_in operators) n l ≡ spells (arity B) n l
  spells_book n l a = spells_same (arity_in operators) (arity B) n l (known_arities l a)
