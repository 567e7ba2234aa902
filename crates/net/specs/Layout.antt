-- The layout of a net's area: 15 columns of 256 bytes, and what each says. A rule's number is its index plus 1; 0 is none. The first rule of a root is
-- in the net by its root; every other leaves an earlier rule, its host, at a depth (so many symbols in) by a key, or has the path of an earlier one. That
-- is a way of the net; ways are found by buckets, each with a chain of rules. Assumes nothing.
use Rattle.std.specs.Prelude.{Bool, true, false, Option, Some, None, List, ℕ, zero, suc, ◌+◌, ◌*◌, ◌%◌, ◌≤◌, ◌<◌, eqb, get_or, set}
use Rattle.paper.specs.Result.{if}

-- the length that an area must have
abbrev pub published : ℕ
published = 3840

-- COLUMNS

abbrev pub cell : List ℕ → ℕ → ℕ → ℕ
cell net c i = get_or net (256 * c + i) 0

abbrev pub with_cell : List ℕ → ℕ → ℕ → ℕ → List ℕ
with_cell net c i v = set net (256 * c + i) v

-- the number of a rule that is told, or 0
abbrev pub number : Option ℕ → ℕ
number None = 0
number (Some i) = suc i

-- the number of the first rule of root o
abbrev pub root_in : List ℕ → ℕ → ℕ
root_in net o = cell net 0 o

-- the depth behind the last one at which rules leave rule i; and behind the last one at which they do so by a variable, or where rule i has one
abbrev pub last_in : List ℕ → ℕ → ℕ
last_in net i = cell net 1 i

abbrev pub choice_in : List ℕ → ℕ → ℕ
choice_in net i = cell net 2 i

-- the number of the next rule with the path of rule i
abbrev pub same_in : List ℕ → ℕ → ℕ
same_in net i = cell net 3 i

-- the number of a bucket's first rule, and of the one behind rule j in its bucket
abbrev pub head_in : List ℕ → ℕ → ℕ
head_in net b = cell net 4 b

abbrev pub chain_in : List ℕ → ℕ → ℕ
chain_in net j = cell net 5 j

-- which rule it is that rule j leaves, at which depth, by which key
abbrev pub host_in : List ℕ → ℕ → ℕ
host_in net j = cell net 6 j

abbrev pub depth_in : List ℕ → ℕ → ℕ
depth_in net j = cell net 7 j

abbrev pub key_in : List ℕ → ℕ → ℕ
key_in net j = cell net 8 j

-- where the sides of rule i stand in the book's bits
abbrev pub left_of : List ℕ → ℕ → ℕ
left_of net i = cell net 9 i + 256 * cell net 10 i + 65536 * cell net 11 i

abbrev pub right_of : List ℕ → ℕ → ℕ
right_of net i = cell net 12 i + 256 * cell net 13 i + 65536 * cell net 14 i

-- the day whose rules these are; it stands where the left side of a 256th rule would, since a book has at most 255
abbrev pub day_of : List ℕ → ℕ
day_of net = left_of net 255

-- WAYS

-- the bucket of a way
abbrev pub bucket : ℕ → ℕ → ℕ → ℕ
bucket i d k = (37 * i + 11 * d + k) % 256

-- does rule j leave rule i at depth d by the key k?
unfoldable pub leaves : List ℕ → ℕ → ℕ → ℕ → ℕ → Bool
leaves net j i d k = if (eqb (host_in net j) i) (if (eqb (depth_in net j) d) (eqb (key_in net j) k) false) false

-- the number of the first rule that does, from number c on along its bucket's chain; at most n are looked at
unfoldable pub seek : List ℕ → ℕ → ℕ → ℕ → ℕ → ℕ → ℕ
unfolding leaves
seek net zero c i d k = 0
seek net (suc n) zero i d k = 0
seek net (suc n) (suc j) i d k = elim (leaves net j i d k) [ true ↦ suc j | false ↦ seek net n (chain_in net j) i d k ]

-- the number of the rule that leaves rule i at depth d by the key k
unfoldable pub way_in : List ℕ → ℕ → ℕ → ℕ → ℕ
unfolding seek
way_in net i d k = seek net 256 (head_in net (bucket i d k)) i d k

-- chains go from later rules to earlier ones
abbrev pub Chained : List ℕ → Type 0
Chained net = (c : ℕ) → c < 256 → chain_in net c ≤ c

-- and only the first m rules are in them
pub record Descends (net : List ℕ) (m : ℕ) : Type 0 where
  pub heads : (b : ℕ) → b < 256 → head_in net b ≤ m
  pub chains : Chained net
