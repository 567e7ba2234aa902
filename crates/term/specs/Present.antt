-- The present term in the working array (document 02, Changes 7 and 10): its symbols stand in front, as many as the root's size says, and each one's size is
-- that of the term that begins there. Assumes nothing.
use Rattle.std.specs.Prelude.{Bool, true, List, ◌≡◌, ℕ, ◌≤◌, length, get_or, take}
use Rattle.flat.specs.Sizes as flat
pub use Rattle.flat.specs.Sizes.{Hops}
use Rattle.flat.specs.Rules.{spells}
use Rattle.symbol.specs.Record.{operators, marks, sizes, size}

-- how many symbols the term has, read from its root; these symbols
abbrev pub length_in : List ℕ → ℕ
length_in symbols = size (get_or symbols 0 0)

abbrev pub present : List ℕ → List ℕ
present symbols = take (length_in symbols) symbols

-- its operators, its marks, and its sizes
abbrev pub operators_in : List ℕ → List ℕ
operators_in symbols = operators (present symbols)

abbrev pub marks_in : List ℕ → List Bool
marks_in symbols = marks (present symbols)

abbrev pub sizes_in : List ℕ → List ℕ
sizes_in symbols = sizes (present symbols)

-- one term by the arities, with true sizes
pub record Sized (arity : ℕ → ℕ) (symbols : List ℕ) : Type 0 where
  pub long : length symbols ≡ 1024
  pub most : length_in symbols ≤ 1024
  pub term : spells arity 1 (operators_in symbols) ≡ true
  pub true_sizes : sizes_in symbols ≡ flat.sizes arity (operators_in symbols)
