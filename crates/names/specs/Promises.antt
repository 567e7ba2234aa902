-- Which slots of a buffer of named points bear a name, and which are free, by their first 17 bytes alone; for slots that are not broken these are the names of their
-- points (proofs/Names). Assumes nothing.
use Rattle.std.specs.Prelude.{Bool, true, false, Option, Some, None, List, ◌≡◌, ℕ, ◌≤◌, ◌<◌, eqb, length, get_or, take, drop}
use Rattle.paper.specs.Writer.{same}
use Rattle.parking.specs.Form.{slot_length}
use Rattle.parking.specs.Points.{points_length, slot}

-- a slot's bytes
pub record SlotBytes (bytes : List ℕ) : Type 0 where
  pub long : length bytes ≡ slot_length

-- a buffer has eight slots
pub record HasSlots (points : List ℕ) : Type 0 where
  pub long : points_length ≤ length points

-- its length byte is 0
abbrev pub free_slot : List ℕ → Bool
free_slot bytes = eqb (get_or bytes 0 0) 0

-- the name that its first bytes tell
unfoldable pub told_name : List ℕ → List ℕ
told_name bytes = take (get_or bytes 0 0) (drop 1 bytes)

abbrev pub bears : List ℕ → List ℕ → Bool
bears name bytes = same name (told_name bytes)

-- r is the first slot from `from` on of which f is true, or 8
pub record First (f : List ℕ → Bool) (points : List ℕ) (from r : ℕ) : Type 0 where
  pub most : r ≤ 8
  pub before : (k : ℕ) → from ≤ k → k < r → f (slot k points) ≡ false
  pub here : r < 8 → f (slot r points) ≡ true
  pub behind : r < 8 → from ≤ r

-- the same, or none
abbrev pub Found : (List ℕ → Bool) → List ℕ → ℕ → Option ℕ → Type 0
Found f points from (Some r) = First f points from r × (r < 8)
Found f points from None = First f points from 8

-- slot m doesn't bear the name of slot k, if slot k has one
abbrev pub Different : List ℕ → ℕ → ℕ → Type 0
Different points k m = free_slot (slot k points) ≡ false → bears (told_name (slot k points)) (slot m points) ≡ false

-- r tells whether no slot behind slot k bears its name
abbrev pub Alone : List ℕ → ℕ → Bool → Type 0
Alone points k true = (m : ℕ) → k < m → m < 8 → Different points k m
Alone points k false = (m : ℕ) × (k < m) × (m < 8) × (free_slot (slot k points) ≡ false) × (bears (told_name (slot k points)) (slot m points) ≡ true)

pub record IsAlone (points : List ℕ) (k : ℕ) (r : Bool) : Type 0 where
  pub is : Alone points k r

-- r tells whether all names differ
abbrev pub Differ : List ℕ → Bool → Type 0
Differ points true = (k m : ℕ) → k < m → m < 8 → Different points k m
Differ points false = (k : ℕ) × (m : ℕ) × (k < m) × (m < 8) × (free_slot (slot k points) ≡ false) × (bears (told_name (slot k points)) (slot m points) ≡ true)

pub record NamesDiffer (points : List ℕ) (r : Bool) : Type 0 where
  pub is : Differ points r
