-- A symbol's record in the working array (document 02, Changes 7 and 10), one number: the operator in the lowest eight bits, the mark in the ninth, the
-- size above. Assumes nothing.
use Rattle.std.specs.Prelude.{Bool, List, map, ℕ, ◌/◌, ◌%◌, eqb}

unfoldable pub operator : ℕ → ℕ
operator x = x % 256

unfoldable pub marked : ℕ → Bool
marked x = eqb (x / 256 % 2) 1

unfoldable pub size : ℕ → ℕ
size x = x / 512

-- of each symbol of a list
abbrev pub operators : List ℕ → List ℕ
operators xs = map operator xs

abbrev pub marks : List ℕ → List Bool
marks xs = map marked xs

abbrev pub sizes : List ℕ → List ℕ
sizes xs = map size xs
