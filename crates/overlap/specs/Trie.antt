-- Places and nodes of left sides. A place is a way down from the root, by operators and arguments; a node is an operator at a place. Places and nodes
-- are numbered: the root's place is 0, a node's number is that of the cell that met it first, and the places of its arguments are numbers in a row, from
-- its base on. A left side walked gives the nodes of its operators in preorder. Assumes nothing.
use Rattle.std.specs.Prelude.{List, [], ◌∷◌, ◌++◌, ◌≢◌, ◌≡◌, ℕ, zero, suc, ◌+◌, ◌-◌, ◌*◌, ◌/◌, ◌%◌, ◌<◌, ◌≤◌, true, false, ltb, length, get_or, take, drop}
use Rattle.paper.specs.Book.{Symbol}
use Rattle.std.specs.Prelude.{Result, Ok, Err}

-- the arrays: links by slot; by node its operator, its base and its place; by cell its node
pub record Trie : Type 0 where
  pub links : List ℕ
  pub codes : List ℕ
  pub bases : List ℕ
  pub places : List ℕ
  pub nodes : List ℕ

abbrev pub trie : List ℕ → List ℕ → List ℕ → List ℕ → List ℕ → Trie
trie links codes bases places nodes = record { links = links; codes = codes; bases = bases; places = places; nodes = nodes }

abbrev pub base_of : Trie → ℕ → ℕ
base_of T z = get_or T.bases z 0

abbrev pub place_of : Trie → ℕ → ℕ
place_of T z = get_or T.places z 0

-- z is the node of the operator o at the place c
pub record Named (T : Trie) (z c o : ℕ) : Type 0 where
  pub some : 0 < z
  pub own : get_or T.nodes z 0 ≡ z
  pub place : place_of T z ≡ c
  pub code : get_or T.codes z 0 ≡ o

-- LINKS

-- where the links lead from a slot, by the bits h of the operator o
pub data Leads (links codes : List ℕ) (o : ℕ) : ℕ → ℕ → Result ℕ ℕ → Type 0 where
  free : {slot h : ℕ} → get_or links slot 0 ≡ 0 → Leads links codes o slot h (Err slot)
  node : {slot h : ℕ} (y : ℕ) → get_or links slot 0 ≡ y → 0 < y → get_or codes y 0 ≡ o → Leads links codes o slot h (Ok y)
  on : {slot h : ℕ} {r : Result ℕ ℕ} (y : ℕ) → get_or links slot 0 ≡ y → 0 < y → get_or codes y 0 ≢ o →
      Leads links codes o (16384 + 2 * y + h % 2) (h / 2) r → Leads links codes o slot h r

-- the place whose nodes a slot leads to
unfoldable pub slot_place : List ℕ → ℕ → ℕ
slot_place places slot = elim (ltb slot 16384) [ true ↦ slot | false ↦ get_or places ((slot - 16384) / 2) 0 ]

-- a slot leads to node y, whose own slots come later
pub record Link (T : Trie) (slot y : ℕ) : Type 0 where
  pub own : get_or T.nodes y 0 ≡ y
  pub later : slot < 16384 + 2 * y
  pub place : place_of T y ≡ slot_place T.places slot

pub record Long (T : Trie) : Type 0 where
  pub links : length T.links ≡ 49152
  pub codes : length T.codes ≡ 16384
  pub bases : length T.bases ≡ 16384
  pub places : length T.places ≡ 16384
  pub nodes : length T.nodes ≡ 16384

-- every node is found, and is a cell before this one
pub record Linked (T : Trie) (cell : ℕ) : Type 0 where
  pub found : (z c o : ℕ) → Named T z c o → Leads T.links T.codes o c o (Ok z)
  pub inside : (z c o : ℕ) → Named T z c o → z < cell
  pub leads : (slot : ℕ) → 0 < get_or T.links slot 0 → Link T slot (get_or T.links slot 0)
  pub long : Long T

-- the places of arguments are below base; those of no two nodes are the same, and they come behind the node's own
pub record Based (arity : ℕ → ℕ) (T : Trie) (base : ℕ) : Type 0 where
  pub apart : (z c o w d p : ℕ) → Named T z c o → Named T w d p → z < w → base_of T z + arity o ≤ base_of T w
  pub behind : (z c o : ℕ) → Named T z c o → c < base_of T z
  pub below : (z c o : ℕ) → Named T z c o → base_of T z + arity o ≤ base

-- what is named stays so
pub record Grows (T T' : Trie) : Type 0 where
  pub named : (z c o : ℕ) → Named T z c o → Named T' z c o
  pub based : (z c o : ℕ) → Named T z c o → base_of T' z ≡ base_of T z

-- WALKS

-- the n numbers from b on
unfoldable pub upto : ℕ → ℕ → List ℕ
upto b zero = []
upto b (suc n) = b ∷ upto (suc b) n

-- the symbols ss, whose terms are due at these places, have the nodes zs
abbrev pub Walked : Trie → (ℕ → ℕ) → List Symbol → List ℕ → List ℕ → Type 0
Walked T arity [] due zs = (due ≡ []) × (zs ≡ [])
Walked T arity (Symbol.operator o ∷ ss) due zs =
    (c : ℕ) × (due' : List ℕ) × (z : ℕ) × (zs' : List ℕ) × (due ≡ c ∷ due') × (zs ≡ z ∷ zs') × Named T z c o
    × Walked T arity ss (upto (base_of T z) (arity o) ++ due') zs'
Walked T arity (Symbol.variable v ∷ ss) due zs = (c : ℕ) × (due' : List ℕ) × (due ≡ c ∷ due') × Walked T arity ss due' zs

-- n cells; those of rule i
abbrev pub cells : List ℕ → ℕ → ℕ → List ℕ
cells nodes start n = take n (drop start nodes)

abbrev pub cells_of : List ℕ → List ℕ → ℕ → List ℕ
cells_of nodes counts i = cells nodes (64 * i + 64) (get_or counts i 0)
