-- One slot: the zeros behind its name byte by byte, whether it is broken, by its name and what stands behind, and what its part is opened as; slots in a row. Assumes nothing.
use mathlib.Core.Bool.{Bool, true, false}
use mathlib.Core.List.{List, [], ◌∷◌}
use mathlib.Core.Logic.{inl, inr}
use mathlib.Core.Path.{◌≡◌, refl, sym, ap, ◌∙◌}
use Prim.Native.Nat.{ℕ, ◌+◌, ◌*◌, ◌-◌, ◌≤◌, ◌<◌}
use native.Mathlib.Omega.{arith}
use borrow.Author.Tests.{le-leb, lt-leb}
use lib.Dec.{leb, eqb}
use Rattle.std.specs.List.{list_all}
use lib.ListN.{length, get_or, take, drop, length-drop}
use lib.Seq.{drop-drop, take_all}
use Rattle.paper.specs.Result.{Result, refused, accepted, Read, Reader, return, refuse, then, ◌>>=◌}
use Rattle.paper.specs.Reader.{all_zero}
use Rattle.paper.specs.Page.{read_bytes, read_number}
use Rattle.paper.proofs.Readers.{bind_return, bind_accepted}
use Rattle.paper.proofs.Tests.{either, eqb_true, eqb_false}
use Rattle.flat.specs.Tested.{and}
use Rattle.book.proofs.Readers.{bind_assoc}
use Rattle.parking.specs.Form.{name_length, Point, read_fields, only_if, read_point, Slot, slot_of, read_slot}
use Rattle.parking.specs.Points.{slot}
use Rattle.names.proofs.Told.{take_drop}
use Rattle.names.proofs.Reading.{behind_name, read_behind}
use Rattle.point.specs.Saved.{Arrays, saved}
use Rattle.opening.specs.declared.Opened.{Opened}
use Rattle.std.specs.Prelude.{Option, Some, None, is_some, MatchBool}
use Rattle.opening.specs.Promises.{Part, read_part, book_in, day_of, OpenedAs}
use Rattle.checking.specs.Promises.{name_kept, accepts, whole, SlotsJudged}

-- THE NAME

-- `all` over bytes, as the paper says it
all_zeros : (xs : List ℕ) → list_all (λ b. eqb b 0) xs ≡ all_zero xs
unfolding all_zero
all_zeros [] = refl
all_zeros (x ∷ xs) = elim (either (eqb x 0)) [ inl e ↦ rw (e, all_zero) (all_zeros xs) | inr e ↦ rw (e, all_zero) refl ]

module _ (bytes : List ℕ) where
  pub kept_short : (n : ℕ) → n ≡ get_or bytes 0 0 → n ≤ 16 → list_all (λ b. eqb b 0) (take (17 - (n + 1)) (drop (n + 1) bytes)) ≡ name_kept bytes
  unfolding name_kept and
  kept_short n e l =
      let z : 1 + n ≡ n + 1 = omega arith in
      rw (← e, le-leb n 16 l, ← z) (all_zeros (take (17 - (1 + n)) (drop (1 + n) bytes))
      ∙ ap (λ (xs : List ℕ). all_zero (take (17 - (1 + n)) xs)) (sym (drop-drop n 1 bytes))
      ∙ ap all_zero (take_drop n (17 - (1 + n)) 16 (drop 1 bytes) (omega arith)))

  pub kept_long : (n : ℕ) → n ≡ get_or bytes 0 0 → 16 < n → false ≡ name_kept bytes
  unfolding name_kept and
  kept_long n e l = rw (← e, lt-leb n 16 l) refl

-- THE SLOT

bind_same : {A B : Type 0} (p : Reader A) (k k' : A → Reader B) (xs : List ℕ) → ((a : A) (ys : List ℕ) → k a ys ≡ k' a ys) → (p >>= k) xs ≡ (p >>= k') xs
unfolding ◌>>=◌ then
bind_same p k k' xs h = go (p xs)
  where
    go : (x : Result (Read _)) → then x (λ r. k r.value r.left) ≡ then x (λ r. k' r.value r.left)
    go (refused n) = refl
    go (accepted r) = h r.value r.left

-- a part gets the name of n bytes, if it is kept
abbrev given_name : ℕ → List ℕ → Part → Reader Point
given_name n bs y = only_if (and (leb n name_length) (all_zero (drop n bs))) (record { name = take n bs; book = y.book; day = y.day; saved = y.saved })

-- reading behind the name is reading the part
part_named : (n : ℕ) (bs xs : List ℕ) → (read_part >>= given_name n bs) xs ≡ behind_name n bs xs
unfolding read_part
part_named n bs xs =
    let g : Part → Reader Point = given_name n bs in
    bind_assoc (read_number 2) _ g xs ∙ bind_same (read_number 2) _ _ xs λ m xs₁.
    bind_assoc (read_number 2) _ g xs₁ ∙ bind_same (read_number 2) _ _ xs₁ λ day xs₂.
    bind_assoc (read_bytes m) _ g xs₂ ∙ bind_same (read_bytes m) _ _ xs₂ λ book xs₃.
    bind_assoc (read_fields book day) _ g xs₃ ∙ bind_same (read_fields book day) _ _ xs₃ λ saved xs₄.
    bind_return (return _) g xs₄ xs₄ _ refl

-- what a name that is kept lets pass, and one that isn't
module _ (b : Bool) (g : Part → Point) where
  kept_part : (x : Result (Read Part)) → b ≡ true → whole (slot_of (then x (λ r. only_if b (g r.value) r.left))) ≡ accepts x
  unfolding then only_if return slot_of
  kept_part (refused n) e = refl
  kept_part (accepted r) e = rw e refl

  lost_part : (x : Result (Read Part)) → b ≡ false → whole (slot_of (then x (λ r. only_if b (g r.value) r.left))) ≡ false
  unfolding then only_if refuse slot_of
  lost_part (refused n) e = refl
  lost_part (accepted r) e = rw e refl

pub whole_free : (bytes : List ℕ) → get_or bytes 0 0 ≡ 0 → whole (read_slot bytes) ≡ true
unfolding read_slot
whole_free bytes e = rw (eqb_true (get_or bytes 0 0) 0 e, read_slot) refl

module _ (bytes : List ℕ) (long : 17 ≤ length bytes) (d : get_or bytes 0 0 ≡ 0 → ⊥) where
  slot_is : read_slot bytes ≡ slot_of (read_point bytes)
  unfolding read_slot
  slot_is = rw (eqb_false (get_or bytes 0 0) 0 d, read_slot) refl

  point_is : read_point bytes ≡ (read_part >>= given_name (get_or bytes 0 0) (take name_length (drop 1 bytes))) (drop 17 bytes)
  point_is = read_behind bytes long ∙ sym (part_named (get_or bytes 0 0) (take name_length (drop 1 bytes)) (drop 17 bytes))

  pub broken_name : name_kept bytes ≡ false → whole (read_slot bytes) ≡ false
  unfolding name_kept ◌>>=◌
  broken_name e = ap whole slot_is ∙ ap (λ (x : Result (Read Point)). whole (slot_of x)) point_is ∙ lost_part (name_kept bytes) _ (read_part (drop 17 bytes)) e

  pub whole_part : name_kept bytes ≡ true → whole (read_slot bytes) ≡ accepts (read_part (take (length bytes - 17) (drop 17 bytes)))
  unfolding name_kept ◌>>=◌
  whole_part e =
      ap whole slot_is
      ∙ ap (λ (x : Result (Read Point)). whole (slot_of x)) point_is
      ∙ kept_part (name_kept bytes) _ (read_part (drop 17 bytes)) e
      ∙ ap (λ (xs : List ℕ). accepts (read_part xs)) (sym (take_all (length bytes - 17) (drop 17 bytes) (rw length-drop (omega arith))))

-- THE PART

-- by what it is opened as
module _ (part operators rules : List ℕ) (a : Arrays) where
  pub part_opened : (r : Option Opened) → OpenedAs part operators rules a r → is_some r ≡ accepts (read_part part)
  unfolding return
  part_opened (Some o) h = sym (ap accepts h.is.is)
  part_opened None h = go (read_part part) h.is
    where
      go : (x : Result (Read Part)) → ((y : Read Part) → x ≡ accepted y → ⊥) → false ≡ accepts x
      go (refused n) h = refl
      go (accepted y) h = absurd (h y refl)

-- A POINT THAT A SLOT HOLDS is what its part is opened as

abbrev pub Opens : List ℕ → Point → Arrays → Option Opened → Type 0
Opens part P a (Some o) = (P.book ≡ book_in part o.book) × (P.day ≡ day_of part) × (P.saved ≡ saved o.numbers a)
Opens part P a None = ⊥

holds_injective : {P Q : Point} → Slot.holds P ≡ Slot.holds Q → P ≡ Q
holds_injective e = cc

-- where slot k's part stands
pub lent_part : (points : List ℕ) (k : ℕ) → take (k * 65536 + 65536 - (k * 65536 + 17)) (drop (k * 65536 + 17) points) ≡ drop 17 (slot k points)
unfolding slot
lent_part points k =
    let z : k * 65536 + 65536 - (k * 65536 + 17) ≡ 65519 = omega arith in
    ap (λ (n : ℕ). take n (drop (k * 65536 + 17) points)) z
    ∙ ap (take 65519) (sym (drop-drop 17 (k * 65536) points))
    ∙ take_drop 17 65519 65536 (drop (k * 65536) points) (omega arith)

module _ (bytes : List ℕ) (long : 17 ≤ length bytes) (P : Point) (h : read_slot bytes ≡ Slot.holds P) where
  filled : get_or bytes 0 0 ≡ 0 → ⊥
  unfolding read_slot
  filled e = let z : Slot.free ≡ Slot.holds P = rw (eqb_true (get_or bytes 0 0) 0 e, read_slot) at h in (let o : ◌≡◌ {A = ℕ} 0 1 = cc in omega arith)

  held_part : (y : Part) (ys : List ℕ) → read_part (drop 17 bytes) ≡ return y ys → (P.book ≡ y.book) × (P.day ≡ y.day) × (P.saved ≡ y.saved)
  unfolding name_kept
  held_part y ys q =
      let e = go (name_kept bytes) (sym (slot_is bytes long filled ∙ ap slot_of (point_is bytes long filled ∙ bind_return read_part named (drop 17 bytes) ys y q)) ∙ h) in
      (ap (λ (Q : Point). Q.book) (sym e), ap (λ (Q : Point). Q.day) (sym e), ap (λ (Q : Point). Q.saved) (sym e))
    where
      named : Part → Reader Point
      named = given_name (get_or bytes 0 0) (take name_length (drop 1 bytes))

      Q : Point
      Q = record { name = take (get_or bytes 0 0) (take name_length (drop 1 bytes)); book = y.book; day = y.day; saved = y.saved }

      go : (b : Bool) → slot_of (only_if b Q ys) ≡ Slot.holds P → Q ≡ P
      go true e = holds_injective (unfold only_if return slot_of in e)
      go false e = let z : Slot.broken ≡ Slot.holds P = (unfold only_if refuse slot_of in e) in (let o : ◌≡◌ {A = ℕ} 0 1 = cc in absurd (omega arith))

  held_read : ((y : Read Part) → read_part (drop 17 bytes) ≡ accepted y → ⊥) → ⊥
  held_read n = go (read_point bytes) refl (sym (slot_is bytes long filled) ∙ h)
    where
      go : (x : Result (Read Point)) → read_point bytes ≡ x → slot_of x ≡ Slot.holds P → ⊥
      go (refused k) q e = let z : Slot.broken ≡ Slot.holds P = (unfold slot_of in e) in (let o : ◌≡◌ {A = ℕ} 0 1 = cc in omega arith)
      go (accepted r) q e =
          let (y, f, _) = bind_accepted read_part (given_name (get_or bytes 0 0) (take name_length (drop 1 bytes))) (drop 17 bytes) r (sym (point_is bytes long filled) ∙ q) in n y f

  pub held_opens : (operators rules : List ℕ) (a : Arrays) (r : Option Opened) → OpenedAs (drop 17 bytes) operators rules a r → Opens (drop 17 bytes) P a r
  held_opens operators rules a (Some q) o = held_part _ _ o.is.is
  held_opens operators rules a None o = held_read o.is

-- SLOTS IN A ROW

pub judged : (points : List ℕ) (r : Bool) →
    MatchBool r ((k : ℕ) → k < 8 → whole (read_slot (slot k points)) ≡ true) ((k : ℕ) × (k < 8) × (whole (read_slot (slot k points)) ≡ false)) → SlotsJudged points r
judged points true h = record { is = h }
judged points false h = record { is = h }
