-- The answers of the check of a buffer, by what was found of its slots and their names. Assumes nothing.
use mathlib.Core.Bool.{true, false, false≢true, true≢false}
use mathlib.Core.List.{List}
use mathlib.Core.Option.{none, some}
use mathlib.Core.Path.{◌≡◌, refl, sym, ap, ◌∙◌, subst}
use Prim.Native.Nat.{ℕ, ◌≤◌, ◌<◌}
use native.Mathlib.Omega.{arith}
use borrow.Author.Tests.{le-leb, lt-leb}
use lib.ListN.{length}
use Rattle.paper.specs.Page.{unless}
use Rattle.paper.proofs.Tests.{ltb_true, ltb_false}
use Rattle.flat.specs.Tested.{and}
use Rattle.parking.specs.Form.{Slot, read_slot}
use Rattle.parking.specs.Points.{points_length, slot, read_slots, all_good, name_good, points_fault, or_refuse, place_checked, find_checked}
use Rattle.parking.proofs.Buffer.{slot_at}
use Rattle.parking.proofs.Slots.{Whole, good_slots}
use Rattle.parking.proofs.Checks.{Ready, points_ready, ready_points, place_passes}
use Rattle.names.specs.Promises.{HasSlots, free_slot, bears, First, Found, NamesDiffer}
use Rattle.names.proofs.Names.{Unbroken, broken_bad, differ_good, found, not_found, free_found, none_free, placed_there, placed_new}
use Rattle.refusal.specs.declared.Refusal.{Refusal}
use Rattle.refusal.specs.declared.Refusal.TheVariants.{BadPointOrName, NinthName}
use Rattle.std.specs.Prelude.{Option, Some, None, MatchOption, Result as Answer, Ok, Err}
use Rattle.std.specs.Option.{ok_or}
use Rattle.checking.specs.Promises.{whole, SlotsJudged, as_fault, Inside, Placed, FoundAs}

-- SLOTS

whole_true : (z : Slot) → whole z ≡ true → Whole z
whole_true Slot.free e = tt
whole_true Slot.broken e = absurd (false≢true e)
whole_true (Slot.holds P) e = tt

whole_false : (z : Slot) → whole z ≡ false → z ≡ Slot.broken
whole_false Slot.free e = absurd (true≢false e)
whole_false Slot.broken e = refl
whole_false (Slot.holds P) e = absurd (true≢false e)

unbroken : (points : List ℕ) → SlotsJudged points true → Unbroken points
unbroken points j k l = whole_true (read_slot (slot k points)) (j.is k l)

-- FAULTS

module _ (name points : List ℕ) where
  pub short : length points < points_length → points_fault name points ≡ some 16
  unfolding points_fault
  short l = rw (ltb_true (length points) points_length l) refl

  module _ (enough : points_length ≤ length points) where
    has : HasSlots points
    has = record { long = enough }

    bad : all_good (read_slots points) ≡ false → points_fault name points ≡ some 20
    unfolding points_fault
    bad g = rw (ltb_false (length points) points_length enough, g) refl

    pub broken : SlotsJudged points false → points_fault name points ≡ some 20
    broken j = let (k, l, e) = j.is in bad (broken_bad points k l (whole_false (read_slot (slot k points)) e))

    module _ (j : SlotsJudged points true) where
      pub twice : NamesDiffer points false → points_fault name points ≡ some 20
      twice d = bad (differ_good points has (unbroken points j) false d)

      module _ (d : NamesDiffer points true) where
        good : all_good (read_slots points) ≡ true
        good = differ_good points has (unbroken points j) true d

        misnamed : name_good name ≡ false → points_fault name points ≡ some 20
        unfolding points_fault
        misnamed e = rw (ltb_false (length points) points_length enough, good, e) refl

        pub nameless : length name ≡ 0 → points_fault name points ≡ some 20
        nameless e = misnamed (unfold name_good and in rw (lt-leb 1 (length name) (omega arith)) refl)

        pub long_name : 16 < length name → points_fault name points ≡ some 20
        long_name l = misnamed (unfold name_good and in rw (le-leb 1 (length name) (omega arith), lt-leb (length name) 16 l) refl)

        pub faultless : (length name ≡ 0 → ⊥) → length name ≤ 16 → points_fault name points ≡ none
        faultless n l = ready_points name points (record { enough = enough; good = good; some_name = omega arith; short_name = l })

-- ANSWERS

module _ (name points : List ℕ) (r : Answer (Unit {0}) Refusal) (f : points_fault name points ≡ as_fault r) where
  pub ready : {u : Unit {0}} → r ≡ Ok u → Ready name points
  ready e = points_ready name points (f ∙ ap as_fault e)

  module _ {e : Refusal} (is : r ≡ Err e) where
    pub place_refused : Placed name points (Err e)
    place_refused = record { is = unfold place_checked unless in rw (f ∙ ap as_fault is) refl }

    pub find_refused : FoundAs name points (Err e)
    find_refused = record { is = unfold find_checked unless in rw (f ∙ ap as_fault is) refl }

module _ (name points : List ℕ) (r : Ready name points) where
  pub has_slots : HasSlots points
  has_slots = record { long = r.enough }

  entire : Unbroken points
  entire k l = subst Whole (slot_at points k l) ((good_slots (read_slots points) r.good).whole k)

  inside : (k : ℕ) → k < 8 → Inside points k
  inside k l = record { slot = l; long = r.enough }

  pub found_as : (o : Option ℕ) → Found (bears name) points 0 o → (a : Answer ℕ Refusal) → a ≡ ok_or o BadPointOrName → FoundAs name points a
  found_as o f a e = subst (FoundAs name points) (sym e) (go o f)
    where
      go : (o : Option ℕ) → Found (bears name) points 0 o → FoundAs name points (ok_or o BadPointOrName)
      go (Some k) f =
          let (P, e, q) = found points has_slots entire name r.some_name k f.0 f.1 in
          record { is = record { point = P; read = e; found = unfold find_checked unless or_refuse in rw (ready_points name points r, q) refl; inside = inside k f.1 } }
      go None f = record { is = unfold find_checked unless or_refuse in rw (ready_points name points r, not_found points has_slots entire name r.some_name 8 f (omega arith)) refl }

  -- the slot that bears the name, or else the lowest free one
  pub placed_as : (o p : Option ℕ) → Found (bears name) points 0 o → MatchOption o (Found free_slot points 0 p) (λ k. p ≡ Some k) → (a : Answer ℕ Refusal) → a ≡ ok_or p NinthName → Placed name points a
  placed_as o p f g a e = subst (Placed name points) (sym e) (go o f g)
    where
      new : (p : Option ℕ) → First (bears name) points 0 8 → Found free_slot points 0 p → Placed name points (ok_or p NinthName)
      new (Some m) f g = record {
        is = (place_passes name points m r (placed_new points has_slots entire name r.some_name 8 f (omega arith) ∙ free_found points has_slots entire m g.0 g.1), inside m g.1);
      }
      new None f g = record {
        is = unfold place_checked unless or_refuse in rw (ready_points name points r, placed_new points has_slots entire name r.some_name 8 f (omega arith) ∙ none_free points has_slots entire 8 g (omega arith)) refl;
      }

      go : (o : Option ℕ) → Found (bears name) points 0 o → MatchOption o (Found free_slot points 0 p) (λ k. p ≡ Some k) → Placed name points (ok_or p NinthName)
      go (Some k) f g = rw g (record { is = (place_passes name points k r (placed_there points has_slots entire name r.some_name k f.0 f.1), inside k f.1) })
      go None f g = new p f g
