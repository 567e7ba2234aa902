-- Which rules have which places and nodes, as bits of words, and so which rules are apart (document 02, Change 13). Assumes nothing.
use Rattle.std.specs.Prelude.{Bool, true, false, not, List, [], ◌∷◌, map, ◌≡◌, ℕ, ◌+◌, ◌*◌, ◌/◌, ◌%◌, ◌<◌, eqb, length, get_or, set}
use Rattle.std.specs.Int.Bits.{bit_or, bit_xor}
use Rattle.paper.specs.Strategy.{has}
use Rattle.paper.specs.Book.{Rule}
use Rattle.paper.specs.Strict.{compatible}
use Rattle.side.specs.Mask.{bit}
use Rattle.tables.specs.Tables.{rule_at}

abbrev pub has_bit : ℕ → ℕ → Bool
has_bit v w = eqb (bit v w) 1

-- the places of nodes
abbrev pub places_of : List ℕ → List ℕ → List ℕ
places_of places zs = map (λ z. get_or places z 0) zs

-- a bit put into the words of some numbers
unfoldable pub mark_all : ℕ → List ℕ → List ℕ → List ℕ
mark_all b [] ws = ws
mark_all b (c ∷ cs) ws = mark_all b cs (set ws c (bit_or (get_or ws c 0) b))

-- the words of places and of nodes differ in these bits, for one of the nodes zs at least; apart are those by then
unfoldable pub differ_all : List ℕ → List ℕ → List ℕ → List ℕ → ℕ → ℕ
differ_all places holders sharers [] apart = apart
differ_all places holders sharers (z ∷ zs) apart =
    differ_all places holders sharers zs (bit_or apart (bit_xor (get_or holders (get_or places z 0) 0) (get_or sharers z 0)))

-- is z not among the nodes ys, but its place one of theirs?
unfoldable pub other : List ℕ → List ℕ → ℕ → Bool
unfolding has
other places ys z = elim (has z ys) [ true ↦ false | false ↦ has (get_or places z 0) (places_of places ys) ]

-- is there such a node among zs?
unfoldable pub parted : List ℕ → List ℕ → List ℕ → Bool
unfolding other
parted places ys [] = false
parted places ys (z ∷ zs) = elim (other places ys z) [ true ↦ true | false ↦ parted places ys zs ]

-- rule j's bit in rule i's row
abbrev pub apart_in : List ℕ → ℕ → ℕ → Bool
apart_in rows i j = has_bit (j % 64) (get_or rows (4 * i + j / 64) 0)

-- the rows say which left sides are apart
pub record Rows (rs : List Rule) (rows : List ℕ) : Type 0 where
  pub each : (i j : ℕ) → i < length rs → j < length rs → apart_in rows i j ≡ not (compatible (rule_at rs i).left (rule_at rs j).left)
