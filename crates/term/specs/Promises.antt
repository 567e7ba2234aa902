-- What the functions on the working array ensure, by the definitions on lists of symbols. Assumes nothing.
use Rattle.std.specs.Prelude.{Bool, true, false, List, ◌≡◌, ℕ, ◌+◌, ◌-◌, length, take, drop, set}
use Rattle.std.proofs.Math.Seq.{paste}
use Rattle.paper.specs.Writer.{same}
use Rattle.flat.specs.Sizes as flat
use Rattle.symbol.specs.Record.{operator, marked, size, operators, marks, sizes}

-- r says whether the n symbols from offset a on are those from offset b on
pub record Compared (symbols : List ℕ) (a b n : ℕ) (r : Bool) : Type 0 where
  pub is : r ≡ same (take n (drop a symbols)) (take n (drop b symbols))

-- symbols' is symbols with the n of part from offset `from` on at offset at
pub record Pasted (symbols : List ℕ) (at : ℕ) (part : List ℕ) (from n : ℕ) (symbols' : List ℕ) : Type 0 where
  pub is : symbols' ≡ paste symbols at (drop from part) n
  pub long : length symbols' ≡ 1024

-- the symbol at offset at is marked, and all else is as it was
pub record MarkedAt (at : ℕ) (symbols symbols' : List ℕ) : Type 0 where
  pub operators_are : operators symbols' ≡ operators symbols
  pub marks_are : marks symbols' ≡ set (marks symbols) at true
  pub sizes_are : sizes symbols' ≡ sizes symbols
  pub long : length symbols' ≡ length symbols

-- the symbol at offset at is the operator o, of n arguments, without mark, with its size by those of its arguments
pub record PutSized (n at o : ℕ) (symbols symbols' : List ℕ) : Type 0 where
  pub is : (x : ℕ) × (symbols' ≡ set symbols at x) × (operator x ≡ o) × (size x ≡ flat.hop (sizes symbols) n (at + 1) - at) × (marked x ≡ false)
  pub long : length symbols' ≡ 1024

-- the first n symbols are the operators xs, with the marks ms, and their sizes by the arities
pub record Loaded (arity : ℕ → ℕ) (xs : List ℕ) (ms : List Bool) (n : ℕ) (symbols : List ℕ) : Type 0 where
  pub operators_are : operators (take n symbols) ≡ xs
  pub marks_are : marks (take n symbols) ≡ ms
  pub sizes_are : sizes (take n symbols) ≡ flat.sizes arity xs
  pub long : length symbols ≡ 1024
