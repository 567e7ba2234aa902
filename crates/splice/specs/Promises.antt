-- What replacing a part of the present term asks and ensures, by splice and resize of the machine on lists. Assumes nothing.
use Rattle.std.specs.Prelude.{List, ◌≡◌, ℕ, ◌+◌, ◌-◌, ◌≤◌, ◌<◌, length, get_or, take, drop}
use Rattle.flat.specs.Symbols.{splice}
use Rattle.flat.specs.Sizes.{grown, resize}
use Rattle.symbol.specs.Record.{operator, marked, size, operators, marks, sizes}

-- n symbols are to stand for those from offset a to offset e: a term before them that holds the symbol at a holds all of them
pub record Holding (symbols : List ℕ) (a e n : ℕ) : Type 0 where
  pub long : length symbols ≡ 1024
  pub first : a ≤ e
  pub last : e ≤ 1024
  pub few : n ≤ 1024
  pub nested : (i : ℕ) → i < a → a < i + size (get_or symbols i 0) → (e ≤ i + size (get_or symbols i 0)) × (i + size (get_or symbols i 0) ≤ 1024)

-- and there is room for all of the first len symbols then
pub record Replaceable (symbols : List ℕ) (len a e n : ℕ) : Type 0 where
  pub holding : Holding symbols a e n
  pub last : e ≤ len
  pub most : len ≤ 1024
  pub fits : a + n + (len - e) ≤ 1024

-- x' is the record x at offset i, its size put right
pub record Regrown (a e n i x x' : ℕ) : Type 0 where
  pub operator_is : operator x' ≡ operator x
  pub marked_is : marked x' ≡ marked x
  pub size_is : size x' ≡ grown a e n i (size x)

-- the sizes of the symbols before offset a have been put right
pub record GrownBefore (a e n : ℕ) (symbols symbols' : List ℕ) : Type 0 where
  pub before : (i : ℕ) → i < a → Regrown a e n i (get_or symbols i 0) (get_or symbols' i 0)
  pub behind : (i : ℕ) → a ≤ i → get_or symbols' i 0 ≡ get_or symbols i 0
  pub long : length symbols' ≡ length symbols

-- of the first len symbols, those from offset a to offset e gave way to the last n of part, and the sizes before them are put right
pub record Replaced (symbols : List ℕ) (len a e : ℕ) (part : List ℕ) (n : ℕ) (symbols' part' : List ℕ) : Type 0 where
  pub operators_are : operators (take (a + n + (len - e)) symbols') ≡ splice a e (operators (drop (1024 - n) part)) (operators (take len symbols))
  pub marks_are : marks (take (a + n + (len - e)) symbols') ≡ splice a e (marks (drop (1024 - n) part)) (marks (take len symbols))
  pub sizes_are : sizes (take (a + n + (len - e)) symbols') ≡ resize a e (sizes (drop (1024 - n) part)) (sizes (take len symbols))
  pub long : length symbols' ≡ 1024
  pub part_long : length part' ≡ 1024
