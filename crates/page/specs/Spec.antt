-- The page of a standard input by either reader, and what a buffer says of that input (document 01, 'The program and its page'; document 02,
-- Changes 1 and 5). Assumes nothing.
use Rattle.std.specs.Prelude.{Bool, true, false, List, [], ◌∷◌, ◌++◌, ◌≡◌, ℕ, ◌≤◌, ◌<◌, eqb, length, get_or, take, drop}
use Rattle.paper.specs.Page.{LineReader, line, reduce_word, page_by}

-- THE PAGE

-- r bytes of the page are the definition's, and its other bytes stay
pub record Paged (read : LineReader) (input page page' : List ℕ) (r : ℕ) : Type 0 where
  pub size : r ≡ length (page_by read input)
  pub is : page' ≡ page_by read input ++ drop r page

-- the line that every page begins with
abbrev pub fixed_line : List ℕ
fixed_line = line reduce_word (1 ∷ [])

-- do the bytes bs begin with xs?
unfoldable pub begins : List ℕ → List ℕ → Bool
begins [] bs = true
begins (x ∷ xs) [] = false
begins (x ∷ xs) (b ∷ bs) = elim (eqb x b) [ true ↦ begins xs bs | false ↦ false ]

-- THE STANDARD INPUT

-- elements are bytes
abbrev pub Bytes : List ℕ → Type 0
Bytes xs = (i : ℕ) → get_or xs i 0 < 256

-- what n bytes read to the front of the buffer say of the standard input: where they left room, it is these bytes; where they filled the buffer, it
-- may be any bytes that begin with it
pub record StandardInput (buffer : List ℕ) (n : ℕ) (input : List ℕ) : Type 0 where
  pub ended : n < length buffer → input ≡ take n buffer
  pub filled : length buffer ≤ n → (take (length buffer) input ≡ buffer) × Bytes input

-- the page of whatever the standard input is; it lies within its buffer
pub record PagedFrom (read : LineReader) (buffer : List ℕ) (n : ℕ) (page page' : List ℕ) (r : ℕ) : Type 0 where
  pub is : (input : List ℕ) → StandardInput buffer n input → Paged read input page page' r
  pub within : r ≤ length page'
