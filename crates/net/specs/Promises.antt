-- What the functions on a net's area do to it. Assumes nothing.
use Rattle.std.specs.Prelude.{Bool, true, false, List, ◌≡◌, ℕ, suc, ◌+◌, ◌*◌, ◌≤◌, ◌<◌, ltb, length}
use Rattle.net.specs.Layout.{cell, root_in, last_in, choice_in, same_in, left_of, right_of, way_in, Descends}

-- the larger of two depths
unfoldable pub larger : ℕ → ℕ → ℕ
larger a b = elim (ltb a b) [ true ↦ b | false ↦ a ]

-- an area with nothing in it: what it held otherwise is not read
pub record Empty (net net' : List ℕ) : Type 0 where
  pub long : length net' ≡ length net
  pub zero : (c i : ℕ) → c < 6 → i < 256 → cell net' c i ≡ 0

-- the columns from a to b are as they were
abbrev pub Kept : ℕ → ℕ → List ℕ → List ℕ → Type 0
Kept a b net net' = (c i : ℕ) → a ≤ c → c < b → i < 256 → cell net' c i ≡ cell net c i

-- one cell has another value
pub record CellPut (net : List ℕ) (c i v : ℕ) (net' : List ℕ) : Type 0 where
  pub long : length net' ≡ length net
  pub here : cell net' c i ≡ v
  pub others : (c' i' : ℕ) → c' < 15 → i' < 256 → ((c' ≡ c) × (i' ≡ i) → ⊥) → cell net' c' i' ≡ cell net c' i'
  -- a column that ways do not use
  pub ways : c < 4 → (i' d k : ℕ) → way_in net' i' d k ≡ way_in net i' d k

-- a position in three columns
pub record PositionPut (net : List ℕ) (column i position : ℕ) (net' : List ℕ) : Type 0 where
  pub long : length net' ≡ length net
  pub here : cell net' column i + 256 * cell net' (column + 1) i + 65536 * cell net' (column + 2) i ≡ position
  pub others : (c' i' : ℕ) → c' < 15 → i' < 256 → ((column ≤ c') × (c' < column + 3) × (i' ≡ i) → ⊥) → cell net' c' i' ≡ cell net c' i'

-- the sides of rule i
pub record SidesPut (net : List ℕ) (i left right : ℕ) (net' : List ℕ) : Type 0 where
  pub long : length net' ≡ length net
  pub left_is : left_of net' i ≡ left
  pub right_is : right_of net' i ≡ right
  pub lefts : (i' : ℕ) → i' < 256 → (i' ≡ i → ⊥) → left_of net' i' ≡ left_of net i'
  pub rights : (i' : ℕ) → i' < 256 → (i' ≡ i → ⊥) → right_of net' i' ≡ right_of net i'
  pub kept : Kept 0 9 net net'
  pub ways : (m : ℕ) → m ≤ 256 → Descends net m → (i' d k : ℕ) → way_in net' i' d k ≡ way_in net i' d k

-- rule j is found by its way, before the depths of rule i are put
pub record WayLinked (net : List ℕ) (i d k j : ℕ) (net' : List ℕ) : Type 0 where
  pub long : length net' ≡ length net
  pub here : way_in net' i d k ≡ suc j
  pub others : (i' d' k' : ℕ) → ((i' ≡ i) × (d' ≡ d) × (k' ≡ k) → ⊥) → way_in net' i' d' k' ≡ way_in net i' d' k'
  pub kept : Kept 0 4 net net'
  pub sides : Kept 9 15 net net'
  pub descends : Descends net' (suc j)

-- rule j leaves rule i at depth d by the key k; c: there is a choice
pub record WayPut (net : List ℕ) (i d k j : ℕ) (c : Bool) (net' : List ℕ) : Type 0 where
  pub long : length net' ≡ length net
  pub here : way_in net' i d k ≡ suc j
  pub others : (i' d' k' : ℕ) → ((i' ≡ i) × (d' ≡ d) × (k' ≡ k) → ⊥) → way_in net' i' d' k' ≡ way_in net i' d' k'
  pub last_here : last_in net' i ≡ larger (last_in net i) (suc d)
  pub lasts : (i' : ℕ) → i' < 256 → (i' ≡ i → ⊥) → last_in net' i' ≡ last_in net i'
  pub choice_here : choice_in net' i ≡ elim c [ true ↦ larger (choice_in net i) (suc d) | false ↦ choice_in net i ]
  pub choices : (i' : ℕ) → i' < 256 → (i' ≡ i → ⊥) → choice_in net' i' ≡ choice_in net i'
  pub roots : (o : ℕ) → o < 256 → root_in net' o ≡ root_in net o
  pub sames : (i' : ℕ) → i' < 256 → same_in net' i' ≡ same_in net i'
  pub sides : Kept 9 15 net net'
  pub descends : Descends net' (suc j)
