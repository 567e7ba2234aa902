-- Left sides that "agree up to the naming of variables" (document 02, Change 5), and the test for it: both sides' variables are numbered as they are
-- met, and the symbols compared. Assumes nothing.
use Rattle.std.specs.Prelude.{Bool, true, false, List, [], ◌∷◌, ◌++◌, ◌≡◌, ℕ, suc, eqb}
use Rattle.paper.specs.Result.{if}
use Rattle.paper.specs.Tree.{preorder, relabel}
use Rattle.paper.specs.Strategy.{has}
use Rattle.paper.specs.Book.{Symbol, Side}

abbrev pub rename_symbol : (ℕ → ℕ) → Symbol → Symbol
rename_symbol ρ (Symbol.operator o) = Symbol.operator o
rename_symbol ρ (Symbol.variable v) = Symbol.variable (ρ v)

-- the side with each variable renamed
unfoldable pub rename : (ℕ → ℕ) → Side → Side
unfolding relabel
rename ρ = relabel (rename_symbol ρ)

-- two sides agree up to the naming of variables: each is the other renamed
abbrev pub Alike : Side → Side → Type 0
Alike s u = (ρ : ℕ → ℕ) × (σ : ℕ → ℕ) × (rename ρ s ≡ u) × (rename σ u ≡ s)

-- The test

-- where v stands in a list; its length if nowhere
unfoldable pub place : ℕ → List ℕ → ℕ
place v [] = 0
place v (w ∷ ws) = if (eqb v w) 0 (suc (place v ws))

-- the variables met so far, and v too
unfoldable pub meeting : ℕ → List ℕ → List ℕ
unfolding has
meeting v vs = if (has v vs) vs (vs ++ (v ∷ []))

-- symbols with their variables numbered as they are met; vs are those met so far
unfoldable pub canonical : List ℕ → List Symbol → List Symbol
unfolding place meeting
canonical vs [] = []
canonical vs (Symbol.operator o ∷ ss) = Symbol.operator o ∷ canonical vs ss
canonical vs (Symbol.variable v ∷ ss) = Symbol.variable (place v vs) ∷ canonical (meeting v vs) ss

unfoldable pub same_symbol : Symbol → Symbol → Bool
same_symbol (Symbol.operator o) (Symbol.operator p) = eqb o p
same_symbol (Symbol.operator o) (Symbol.variable w) = false
same_symbol (Symbol.variable v) (Symbol.operator p) = false
same_symbol (Symbol.variable v) (Symbol.variable w) = eqb v w

unfoldable pub same_symbols : List Symbol → List Symbol → Bool
unfolding same_symbol
same_symbols [] [] = true
same_symbols [] (u ∷ us) = false
same_symbols (s ∷ ss) [] = false
same_symbols (s ∷ ss) (u ∷ us) = elim (same_symbol s u) [ true ↦ same_symbols ss us | false ↦ false ]

unfoldable pub alike : Side → Side → Bool
unfolding canonical same_symbols preorder
alike s u = same_symbols (canonical [] (preorder s)) (canonical [] (preorder u))
