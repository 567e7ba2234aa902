-- The name that a slot's first bytes tell, byte by byte; a slot's bytes in the buffer; and the first slot of which something is true. Assumes nothing.
use mathlib.Core.Bool.{Bool, true, false, not, false≢true}
use mathlib.Core.List.{List, [], ◌∷◌}
use mathlib.Core.Path.{◌≡◌, sym, ap, ◌∙◌}
use Prim.Native.Nat.{ℕ, zero, suc, ◌+◌, ◌*◌, ◌-◌, ◌≤◌, ◌<◌}
use native.Mathlib.Omega.{arith}
use lib.ListN.{length, get_or, take, drop, length-drop}
use lib.Seq.{take-nil, take-take, get_or-take, get_or-drop, drop-drop, length-take-le}
use Rattle.paper.proofs.Operators.{same_equal, same_true}
use Rattle.paper.proofs.Tests.{eqb_true, eqb_false}
use Rattle.parking.specs.Form.{slot_length}
use Rattle.parking.specs.Points.{slot}
use Rattle.names.specs.Promises.{SlotBytes, HasSlots, free_slot, told_name, bears, Found, IsAlone, NamesDiffer}
use Rattle.std.specs.Prelude.{Option, Some, None, Decides, MatchBool, MatchOption, is_some}

-- THE NAME

-- does a slot bear the name that it tells
pub bears_decides : (name bytes : List ℕ) → Decides (bears name bytes) (told_name bytes ≡ name)
bears_decides name bytes = (λ e. sym (same_equal name (told_name bytes) e), λ e. same_true name (told_name bytes) (sym e))

-- SLOTS OF THE BUFFER

-- the part of the buffer that is lent
abbrev pub lent : ℕ → List ℕ → List ℕ
lent k points = take (k * 65536 + 65536 - k * 65536) (drop (k * 65536) points)

pub lent_slot : (k : ℕ) (points : List ℕ) → lent k points ≡ slot k points
unfolding slot
lent_slot k points = let z : k * 65536 + 65536 - k * 65536 ≡ 65536 = omega arith in ap (λ (n : ℕ). take n (drop (k * 65536) points)) z

module _ (points : List ℕ) (h : HasSlots points) (k : ℕ) (l : k < 8) where
  pub slot_long : length (slot k points) ≡ slot_length
  unfolding slot
  slot_long = length-take-le slot_length (drop (k * slot_length) points) (rw length-drop (omega arith))

  pub lent_bytes : SlotBytes (lent k points)
  lent_bytes = record { long = ap length (lent_slot k points) ∙ slot_long }

pub slot_byte : (points : List ℕ) (k i : ℕ) → i < slot_length → get_or (slot k points) i 0 ≡ get_or points (k * slot_length + i) 0
unfolding slot
slot_byte points k i l = get_or-take slot_length (drop (k * slot_length) points) i 0 l ∙ get_or-drop (k * slot_length) points i 0

pub slot_first : (points : List ℕ) (k : ℕ) → get_or (slot k points) 0 0 ≡ get_or points (k * slot_length) 0
slot_first points k = slot_byte points k 0 (omega arith) ∙ (let z : k * slot_length + 0 ≡ k * slot_length = omega arith in ap (λ (i : ℕ). get_or points i 0) z)

-- a slot with another byte in front than 0 is not free, and one with 0 is
pub is_free : (points : List ℕ) (k : ℕ) → get_or points (k * 65536) 0 ≡ 0 → free_slot (slot k points) ≡ true
is_free points k e = eqb_true _ _ (slot_first points k ∙ e)

pub not_free : (points : List ℕ) (k : ℕ) → (get_or points (k * 65536) 0 ≡ 0 → ⊥) → free_slot (slot k points) ≡ false
not_free points k d = eqb_false _ _ (λ e. d (sym (slot_first points k) ∙ e))

-- THE FIRST SLOT

-- what a search among the slots finds
pub found : (f : List ℕ → Bool) (points : List ℕ) (from : ℕ) (r : Option ℕ) → MatchOption r ((k : ℕ) → from ≤ k → k < 8 → f (slot k points) ≡ false)
    (λ i. (from ≤ i) × (i < 8) × (f (slot i points) ≡ true) × ((k : ℕ) → from ≤ k → k < i → f (slot k points) ≡ false)) → Found f points from r
found f points from (Some i) h = (record { most = omega (arith, h.1); before = h.3; here = λ _. h.2; behind = λ _. h.0 }, h.1)
found f points from None h = record { most = omega arith; before = h; here = λ b. absurd (omega (arith, b)); behind = λ b. absurd (omega (arith, b)) }

-- THE NAME IN THE BUFFER

pub take_drop : (d n e : ℕ) (xs : List ℕ) → e ≡ d + n → take n (drop d xs) ≡ drop d (take e xs)
take_drop zero n e xs q = let p : n ≡ e = omega arith in ap (λ (i : ℕ). take i xs) p
take_drop (suc d) n zero xs q = absurd (omega arith)
take_drop (suc d) n (suc e) [] q = take-nil n
take_drop (suc d) n (suc e) (x ∷ xs) q = take_drop d n e xs (omega arith)

-- where the name that slot k tells stands, n bytes of it
pub told_lent : (points : List ℕ) (k n : ℕ) → n ≡ get_or points (k * 65536) 0 → n < 256 →
    take (k * 65536 + 1 + n - (k * 65536 + 1)) (drop (k * 65536 + 1) points) ≡ told_name (slot k points)
unfolding told_name slot
told_lent points k n e l =
    let z : k * 65536 + 1 + n - (k * 65536 + 1) ≡ n = omega arith in
    let xs : List ℕ = drop (k * 65536) points in
    let same_bytes : take n (drop 1 (take slot_length xs)) ≡ take n (drop (k * 65536 + 1) points) =
    ap (take n) (sym (take_drop 1 65535 slot_length xs (omega arith))) ∙ take-take n 65535 (drop 1 xs) (omega arith) ∙ ap (take n) (drop-drop 1 (k * 65536) points) in
    ap (λ (i : ℕ). take i (drop (k * 65536 + 1) points)) z
    ∙ sym same_bytes
    ∙ ap (λ (i : ℕ). take i (drop 1 (take slot_length xs))) (e ∙ sym (slot_first points k))

-- NAMES THAT DIFFER

pub alone_free : (points : List ℕ) (k : ℕ) → get_or points (k * 65536) 0 ≡ 0 → IsAlone points k true
alone_free points k e = record { is = λ m a b free. absurd (false≢true (sym free ∙ is_free points k e)) }

pub alone_found : (points : List ℕ) (k : ℕ) (r : Option ℕ) (b : Bool) → (get_or points (k * 65536) 0 ≡ 0 → ⊥) → Found (bears (told_name (slot k points))) points (suc k) r → is_some r ≡ not b →
    IsAlone points k b
alone_found points k None true d f e = record { is = λ m a b free. f.before m (omega arith) b }
alone_found points k None false d f e = absurd (false≢true e)
alone_found points k (Some m) true d f e = absurd (false≢true (sym e))
alone_found points k (Some m) false d f e = record { is = (m, let l = f.0.behind f.1 in omega (arith, l), f.1, not_free points k d, f.0.here f.1) }

pub names_differ : (points : List ℕ) (r : Bool) → MatchBool r ((k : ℕ) → k < 8 → IsAlone points k true) ((k : ℕ) × (k < 8) × IsAlone points k false) → NamesDiffer points r
names_differ points true h = record { is = λ k m a b. (h k (omega arith)).is m a b }
names_differ points false h = let a = h.2.is in record { is = (h.0, a.0, a.1, a.2, a.3, a.4) }
