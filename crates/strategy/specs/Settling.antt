-- Settling in one pass over a list's numbers: what is kept so far, and where in it the last group opened. Assumes nothing.
use Rattle.std.specs.Prelude.{Bool, List, [], ◌∷◌, ◌++◌, ◌≡◌, ℕ, ◌+◌, ◌-◌, eqb, ltb, length, get_or, take}
use Rattle.paper.specs.Result.{if}
use Rattle.paper.specs.Strategy.{has}

abbrev pub ends_in_zero : List ℕ → Bool
ends_in_zero kept = eqb (get_or kept (length kept - 1) 1) 0

-- the group that opened at index g is closed: a group of none is dropped, a group of one becomes its argument
unfoldable pub closed : List ℕ → ℕ → List ℕ
closed kept g =
    if (eqb (length kept) (g + 1)) (take g kept)
    (if (eqb (length kept) (g + 2)) (take g kept ++ (get_or kept (g + 1) 0 ∷ [])) (kept ++ (9 ∷ [])))

-- what is kept when the number v follows: no 0 behind a 0, no argument a second time
unfoldable pub keeping : List ℕ → ℕ → ℕ → List ℕ
unfolding closed has
keeping kept g v =
    if (eqb v 0) (if (ends_in_zero kept) kept (kept ++ (0 ∷ [])))
    (if (ltb v 8) (if (has v kept) kept (kept ++ (v ∷ [])))
    (if (eqb v 8) (kept ++ (8 ∷ [])) (closed kept g)))

-- where the last group opened
abbrev pub opening : ℕ → ℕ → ℕ → ℕ
opening len g v = if (eqb v 8) len g

unfoldable pub settling : List ℕ → ℕ → List ℕ → List ℕ
unfolding keeping
settling kept g [] = kept
settling kept g (v ∷ vs) = settling (keeping kept (opening (length kept) g v) v) (opening (length kept) g v) vs

-- xs stand at the front of an array
pub record AtFront (xs : List ℕ) (len : ℕ) (kept : List ℕ) : Type 0 where
  pub is : take len kept ≡ xs
  pub long : length kept ≡ 32
