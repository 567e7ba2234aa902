-- Many lines by one book, which is ours, beyond the papers: how lines stand one after another, which of them are done, and why no more. Assumes nothing.
use Rattle.std.specs.Prelude.{List, [], ◌∷◌, ℕ, zero, suc, ◌+◌, ◌-◌, eqb, ltb, leb, length}
use Rattle.paper.specs.Result.{refused, accepted, if}
use Rattle.stream.specs.Promises.{read_counted}
use Rattle.records.specs.Record.{longest}

-- LINES

-- the whole lines in front, each behind its length in two bytes, the high one first: at most k of them
unfoldable pub whole_lines : ℕ → List ℕ → List (List ℕ)
unfolding read_counted
whole_lines zero xs = []
whole_lines (suc k) xs = elim (read_counted xs) [ refused n ↦ [] | accepted r ↦ r.value ∷ whole_lines k r.left ]

-- each takes two bytes at least, so there are no more lines than bytes
abbrev pub lines_of : List ℕ → List (List ℕ)
lines_of xs = whole_lines (length xs) xs

-- how many bytes they take, with their lengths
unfoldable pub taken : List (List ℕ) → ℕ
taken [] = 0
taken (l ∷ ls) = 2 + length l + taken ls

-- WHICH LINES ARE DONE

-- why no more: there are none, the next is cut short, or the longest record would not fit
pub data Stop : Type 0 where
  end : Stop
  cut : Stop
  room : Stop

abbrev pub stop_number : Stop → ℕ
stop_number Stop.end = 0
stop_number Stop.cut = 1
stop_number Stop.room = 2

-- by the record that each line gets
module _ (line_record : List ℕ → List ℕ) where
  -- those in front, as long as the longest record would fit into the bytes that are left
  unfoldable pub done : ℕ → List (List ℕ) → List (List ℕ)
  done left [] = []
  done left (l ∷ ls) = if (leb longest left) (l ∷ done (left - length (line_record l)) ls) []

unfoldable pub stop_of : List ℕ → List (List ℕ) → Stop
unfolding taken whole_lines
stop_of xs ls = if (eqb (taken ls) (length xs)) Stop.end (if (ltb (length ls) (length (lines_of xs))) Stop.room Stop.cut)
