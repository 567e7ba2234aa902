-- Bytes in a row: numbers of some bytes, the most significant first; parts behind their length (document 01, 'The program and its page'); and bytes that are
-- written at a position. Assumes nothing.
use Rattle.std.specs.Prelude.{List, [], ◌∷◌, ◌++◌, Option, Some, None, ◌≡◌, ℕ, zero, suc, ◌+◌, ◌-◌, ◌/◌, ◌%◌, ◌≤◌, length, take, drop}
use Rattle.paper.specs.Result.{Result, refused, accepted, Read, Reader, ◌>>=◌}
use Rattle.paper.specs.Page.{read_bytes, read_number}

-- NUMBERS

-- the last n bytes of a number; `number` of the paper's page reads them back (proofs/Numbers, number_bytes)
unfoldable pub bytes : ℕ → ℕ → List ℕ
bytes zero v = []
bytes (suc n) v = bytes n (v / 256) ++ (v % 256 ∷ [])

-- PARTS

-- bytes behind their length
unfoldable pub read_counted : Reader (List ℕ)
unfolding ◌>>=◌ read_number read_bytes
read_counted = do
  n ← read_number 2
  read_bytes n

module _ (input : List ℕ) where
  -- what the reading of counted bytes at position at gives, if they end so
  abbrev pub read_up_to : ℕ → Option ℕ → Result (Read (List ℕ))
  read_up_to at None = refused 17
  read_up_to at (Some e) = accepted (record { value = take (e - (at + 2)) (drop (at + 2) input); left = drop e input })

  abbrev pub EndsWithin : ℕ → Option ℕ → Type 0
  EndsWithin at None = Unit {0}
  EndsWithin at (Some e) = (at + 2 ≤ e) × (e ≤ length input)

  pub record PartEnds (at : ℕ) (r : Option ℕ) : Type 0 where
    pub is : read_counted (drop at input) ≡ read_up_to at r
    pub within : EndsWithin at r

-- WRITING

-- the bytes xs at position at: all before them and behind them stays
pub record WrittenAt (at : ℕ) (xs output output' : List ℕ) (next : ℕ) : Type 0 where
  pub ends : next ≡ at + length xs
  pub fits : next ≤ length output
  pub long : length output' ≡ length output
  pub is : output' ≡ take at output ++ (xs ++ drop next output)
