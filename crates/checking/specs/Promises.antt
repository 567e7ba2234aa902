-- What the check of a buffer of named points ensures (document 02, Change 11): its answers are those of parking/specs/Points. Assumes nothing.
use Rattle.std.specs.Prelude.{Bool, true, false, List, Result as Answer, Ok, Err, ◌≡◌, ℕ, ◌≤◌, ◌<◌, leb, length, get_or, take, drop}
use Rattle.std.proofs.Math.Option.{Option, none, some}
use Rattle.paper.specs.Result.{Result, refused, accepted}
use Rattle.paper.specs.Reader.{all_zero}
use Rattle.flat.specs.Tested.{and}
use Rattle.parking.specs.Form.{name_length, Point, Slot, read_slot}
use Rattle.parking.specs.Points.{points_length, slot, place_checked, find_checked}
use Rattle.refusal.specs.declared.Refusal.{Refusal}
use Rattle.refusal.specs.Numbers.{number}

-- ONE SLOT

-- the name's length is at most 16, and zeros stand behind the name
unfoldable pub name_kept : List ℕ → Bool
unfolding and all_zero
name_kept bytes = and (leb (get_or bytes 0 0) name_length) (all_zero (drop (get_or bytes 0 0) (take name_length (drop 1 bytes))))

abbrev pub accepts : {A : Type 0} → Result A → Bool
accepts (refused n) = false
accepts (accepted a) = true

-- it isn't broken
abbrev pub whole : Slot → Bool
whole Slot.free = true
whole Slot.broken = false
whole (Slot.holds P) = true

-- ALL SLOTS

abbrev pub Judged : List ℕ → Bool → Type 0
Judged points true = (k : ℕ) → k < 8 → whole (read_slot (slot k points)) ≡ true
Judged points false = (k : ℕ) × (k < 8) × (whole (read_slot (slot k points)) ≡ false)

-- r tells whether no slot is broken
pub record SlotsJudged (points : List ℕ) (r : Bool) : Type 0 where
  pub is : Judged points r

-- ANSWERS

-- the number of a refusal, if there is one
abbrev pub as_fault : Answer (Unit {0}) Refusal → Option ℕ
as_fault (Ok _) = none
as_fault (Err e) = some (number e)

-- slot k is one of the buffer's
pub record Inside (points : List ℕ) (k : ℕ) : Type 0 where
  pub slot : k < 8
  pub long : points_length ≤ length points

abbrev pub PlacedIs : List ℕ → List ℕ → Answer ℕ Refusal → Type 0
PlacedIs name points (Ok k) = (place_checked name points ≡ accepted k) × Inside points k
PlacedIs name points (Err e) = place_checked name points ≡ refused (number e)

pub record Placed (name points : List ℕ) (r : Answer ℕ Refusal) : Type 0 where
  pub is : PlacedIs name points r

-- the point in slot k is the one that bears the name
pub record Holds (name points : List ℕ) (k : ℕ) : Type 0 where
  pub point : Point
  pub read : read_slot (slot k points) ≡ Slot.holds point
  pub found : find_checked name points ≡ accepted (record { at = k; point = point })
  pub inside : Inside points k

abbrev pub FoundIs : List ℕ → List ℕ → Answer ℕ Refusal → Type 0
FoundIs name points (Ok k) = Holds name points k
FoundIs name points (Err e) = find_checked name points ≡ refused (number e)

pub record FoundAs (name points : List ℕ) (r : Answer ℕ Refusal) : Type 0 where
  pub is : FoundIs name points r
