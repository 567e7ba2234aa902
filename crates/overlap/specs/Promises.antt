-- What the functions ask and ensure of places, nodes and cells. Promises of functions inside. Assumes nothing.
use Rattle.std.specs.Prelude.{List, [], ◌∷◌, ◌≡◌, ℕ, ◌+◌, ◌*◌, ◌<◌, ◌≤◌, length, get_or, set}
use Rattle.paper.specs.Tree.{preorder}
use Rattle.paper.specs.Book.{Side, Rule}
use Rattle.tables.specs.Layout.{arity_in}
use Rattle.tables.specs.Tables.{rule_at}
use Rattle.rule.specs.Packed.{SideAt}
use Rattle.overlap.specs.Trie.{Trie, trie, Named, Leads, Linked, Based, Grows, Walked, cells, cells_of}
use Rattle.std.specs.Prelude.{Result, Ok, Err}

-- NODES

-- each link leads to a node whose slots come later
pub record Seekable (links codes : List ℕ) : Type 0 where
  pub later : (slot : ℕ) → 0 < get_or links slot 0 → (get_or links slot 0 < 16384) × (slot < 16384 + 2 * get_or links slot 0)
  pub links_long : length links ≡ 49152
  pub codes_long : length codes ≡ 16384

abbrev pub SlotInside : Result ℕ ℕ → Type 0
SlotInside (Ok y) = Unit {0}
SlotInside (Err slot) = slot < 49152

pub record Sought (links codes : List ℕ) (place o : ℕ) (r : Result ℕ ℕ) : Type 0 where
  pub leads : Leads links codes o place o r
  pub inside : SlotInside r

-- a node that is there, or the cell put as one
abbrev pub NodeIs : List ℕ → List ℕ → List ℕ → List ℕ → ℕ → ℕ → ℕ → ℕ → List ℕ → List ℕ → List ℕ → List ℕ → ℕ → Result ℕ ℕ → Type 0
NodeIs links codes bases places place o cell base links' codes' bases' places' z (Ok y) =
    (z ≡ y) × (links' ≡ links) × (codes' ≡ codes) × (bases' ≡ bases) × (places' ≡ places)
NodeIs links codes bases places place o cell base links' codes' bases' places' z (Err slot) =
    (z ≡ cell) × (links' ≡ set links slot cell) × (codes' ≡ set codes cell o) × (bases' ≡ set bases cell base) × (places' ≡ set places cell place)

pub record NodeOf (links codes bases places : List ℕ) (place o cell base : ℕ) (links' codes' bases' places' : List ℕ) (z : ℕ) : Type 0 where
  pub seek : Result ℕ ℕ
  pub sought : Sought links codes place o seek
  pub is : NodeIs links codes bases places place o cell base links' codes' bases' places' z seek
  pub inside : z < 16384

-- z is the node of o at a place, told at a cell
pub record Entered (T : Trie) (place o cell base : ℕ) (T' : Trie) (z : ℕ) : Type 0 where
  pub named : Named T' z place o
  pub grows : Grows T T'
  pub linked : Linked T' (cell + 1)
  pub based : (arity : ℕ → ℕ) → Based arity T base → place < base → Based arity T' (base + arity o)
  pub told : T'.nodes ≡ set T.nodes cell z

-- LEFT SIDES

-- a left side stands at a position; the cells from first + 64 on are free, and so are the places above first
pub record Walkable (bytes : List ℕ) (at : ℕ) (operators : List ℕ) (first : ℕ) (T : Trie) : Type 0 where
  pub side : Side
  pub stands : SideAt bytes at operators side
  pub short : length bytes ≤ 65536
  pub few : first + 128 ≤ 16384
  pub linked : Linked T (first + 64)
  pub based : Based (arity_in operators) T (first + 1)

pub record SideWalked (bytes : List ℕ) (at : ℕ) (operators : List ℕ) (first : ℕ) (T T' : Trie) (n : ℕ) : Type 0 where
  pub walked : (side : Side) → SideAt bytes at operators side → (T'' : Trie) → Grows T' T'' →
      Walked T'' (arity_in operators) (preorder side) (0 ∷ []) (cells T'.nodes (first + 64) n)
  pub few : n ≤ 64
  pub grows : Grows T T'
  pub linked : Linked T' (first + 128)
  pub based : Based (arity_in operators) T' (first + 65)
  pub kept : (i : ℕ) → i < first + 64 → get_or T'.nodes i 0 ≡ get_or T.nodes i 0

-- the cells of all left sides
pub record Built (arity : ℕ → ℕ) (rs : List Rule) (places nodes counts : List ℕ) : Type 0 where
  pub links : List ℕ
  pub codes : List ℕ
  pub bases : List ℕ
  pub linked : Linked (trie links codes bases places nodes) 16384
  pub based : Based arity (trie links codes bases places nodes) 16384
  pub walked : (i : ℕ) → i < length rs → Walked (trie links codes bases places nodes) arity (preorder (rule_at rs i).left) (0 ∷ []) (cells_of nodes counts i)
  pub few : (i : ℕ) → i < length rs → get_or counts i 0 ≤ 64
