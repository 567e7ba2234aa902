-- The line's check by what the code has of the book: the number of operators and their arities (document 01, the row Term of 'What is checked
-- where'). Assumes nothing.
use Rattle.std.specs.Prelude.{Ok, Err, true, false, List, [], ◌∷◌, ℕ, zero, suc, ◌+◌, ltb, length}
use Rattle.std.proofs.Math.Option.{Option, none, some}
use Rattle.std.specs.Prelude.{Result as Answer}
use Rattle.paper.specs.Result.{Result, refused, accepted, if}
use Rattle.paper.specs.Book.{Term}
use Rattle.paper.specs.Line.{symbol_limit}
use Rattle.refusal.specs.declared.Refusal.{Refusal}
use Rattle.refusal.specs.Numbers.{number}

module _ (n : ℕ) (arity : ℕ → ℕ) where
  -- the paper's line_fault, by the number of operators and their arities
  unfoldable pub fault : ℕ → List ℕ → Option ℕ
  fault zero [] = none
  fault zero (o ∷ os) = some 10
  fault (suc due) [] = some 10
  fault (suc due) (o ∷ os) = elim (ltb o n) [ true ↦ fault (arity o + due) os | false ↦ some 11 ]

-- the number by which a line is refused, if it is
unfoldable pub judgement : ℕ → (ℕ → ℕ) → List ℕ → Option ℕ
unfolding fault
judgement n arity line = if (ltb symbol_limit (length line)) (some 12) (fault n arity 1 line)

-- the same of what the check answers
abbrev pub told : Answer Unit Refusal → Option ℕ
told (Ok _) = none
told (Err e) = some (number e)

-- what the paper's reader answers of a line, but for the term
abbrev pub verdict : Result Term → Option ℕ
verdict (refused r) = some r
verdict (accepted t) = none
