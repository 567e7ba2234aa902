-- Laws of the buffer's slots: a slot that is put is there, every other slot and all behind the eight keep their bytes, and so does the length; in an all-zero buffer every slot is
-- free. Assumes nothing.
use mathlib.Core.List.{List, [], ◌∷◌, ◌++◌, map}
use mathlib.Core.Logic.{◌≢◌, inl, inr}
use mathlib.Core.Path.{◌≡◌, refl, sym, ◌∙◌, ap}
use Prim.Native.Nat.{ℕ, zero, suc, ◌+◌, ◌*◌, ◌-◌, ◌<◌, ◌≤◌}
use native.Mathlib.Omega.{arith}
use lib.ListN.{length, get_or, set, take, drop, replicate, length-append, length-drop, length-replicate, get_or-replicate}
use lib.Seq.{take_at, drop_at, take-append-le, drop-append-le, drop-append-add, drop-drop, take-take, length-take-le, ext_get_or, get_or-set_same, get_or-set_other}
use lib.ListN.{length-set}
use Rattle.paper.specs.Machine.{numbers_from}
use Rattle.paper.proofs.Tests.{eqb_cases, ltb_cases}
use Rattle.parking.specs.Form.{slot_length, Slot, read_slot}
use Rattle.parking.specs.Points.{points_length, slot, read_slots, put}

-- a part of some bytes
abbrev part_of : ℕ → ℕ → List ℕ → List ℕ
part_of a n xs = take n (drop a xs)

take_part : (a n m : ℕ) (xs : List ℕ) → a + n ≤ m → part_of a n (take m xs) ≡ part_of a n xs
take_part zero n m xs l = take-take n m xs (omega (arith, l))
take_part (suc a) n zero xs l = absurd (omega (arith, l))
take_part (suc a) n (suc m) [] l = refl
take_part (suc a) n (suc m) (x ∷ xs) l = take_part a n m xs (omega (arith, l))

-- of a list with another part in the middle: what lies before it, it, and what lies behind it
module _ (xs ys zs : List ℕ) where
  before : (a n : ℕ) → a + n ≤ length xs → part_of a n (xs ++ (ys ++ zs)) ≡ part_of a n xs
  before a n l =
      ap (take n) (drop-append-le a xs (ys ++ zs) (omega (arith, l)))
      ∙ take-append-le n (drop a xs) (ys ++ zs) (let e = length-drop a xs in omega (arith, l, e))

  within : part_of (length xs) (length ys) (xs ++ (ys ++ zs)) ≡ ys
  within = ap (take (length ys)) (drop_at xs (ys ++ zs) (length xs) refl) ∙ take_at ys zs (length ys) refl

  after : (a : ℕ) → drop (length xs + (length ys + a)) (xs ++ (ys ++ zs)) ≡ drop a zs
  after a = drop-append-add xs (ys ++ zs) (length ys + a) ∙ drop-append-add ys zs a

-- the buffer has slot k whole
abbrev pub Reaches : ℕ → List ℕ → Type 0
Reaches k points = suc k * slot_length ≤ length points

module _ (k : ℕ) (bytes points : List ℕ) (long : length bytes ≡ slot_length) (in' : Reaches k points) where
  front : length (take (k * slot_length) points) ≡ k * slot_length
  front = length-take-le (k * slot_length) points (omega (arith, in'))

  pub put_length : length (put k bytes points) ≡ length points
  unfolding put
  put_length =
      let a = length-append (take (k * slot_length) points) (bytes ++ drop (suc k * slot_length) points) in
      let b = length-append bytes (drop (suc k * slot_length) points) in
      let c = length-drop (suc k * slot_length) points in
      let d = front in
      omega (arith, a, b, c, d, long, in')

  pub put_same : slot k (put k bytes points) ≡ bytes
  unfolding slot put
  put_same =
      let xs : List ℕ = take (k * slot_length) points in
      let zs : List ℕ = drop (suc k * slot_length) points in
      ap (λ (a : ℕ). part_of a slot_length (xs ++ (bytes ++ zs))) (sym front)
      ∙ ap (λ (n : ℕ). part_of (length xs) n (xs ++ (bytes ++ zs))) (sym long)
      ∙ within xs bytes zs

  behind_put : (a : ℕ) → suc k * slot_length ≤ a → drop a (put k bytes points) ≡ drop a points
  unfolding put
  behind_put a l =
      let xs : List ℕ = take (k * slot_length) points in
      let zs : List ℕ = drop (suc k * slot_length) points in
      let d : ℕ = a - suc k * slot_length in
      let f = front in
      let e : a ≡ length xs + (length bytes + d) = omega (arith, f, long, l) in
      let z : suc k * slot_length + d ≡ a = omega (arith, l) in
      ap (λ (m : ℕ). drop m (xs ++ (bytes ++ zs))) e
      ∙ after xs bytes zs d
      ∙ drop-drop d (suc k * slot_length) points
      ∙ ap (λ (m : ℕ). drop m points) z

  lower_slot : (j : ℕ) → j < k → slot j (put k bytes points) ≡ slot j points
  unfolding slot put
  lower_slot j l =
      let xs : List ℕ = take (k * slot_length) points in
      let zs : List ℕ = drop (suc k * slot_length) points in
      before xs bytes zs (j * slot_length) slot_length (let f = front in omega (arith, f, l))
      ∙ take_part (j * slot_length) slot_length (k * slot_length) points (omega (arith, l))

  higher_slot : (j : ℕ) → k < j → slot j (put k bytes points) ≡ slot j points
  unfolding slot
  higher_slot j l = ap (take slot_length) (behind_put (j * slot_length) (omega (arith, l)))

  -- every other slot
  pub put_other : (j : ℕ) → j ≢ k → slot j (put k bytes points) ≡ slot j points
  put_other j d = elim (ltb_cases j k) [
    | inl p ↦ lower_slot j p.1
    | inr p ↦ higher_slot j (let l = p.1 in omega (arith, l, d))
  ]

  -- and what lies behind the eight
  pub put_behind : k < 8 → drop points_length (put k bytes points) ≡ drop points_length points
  put_behind l = behind_put points_length (omega (arith, l))

-- SLOTS READ

module _ {A : Type 0} (f : ℕ → A) (d : A) where
  numbered : (n k i : ℕ) → i < n → get_or (map f (numbers_from k n)) i d ≡ f (k + i)
  unfolding numbers_from
  numbered zero k i l = absurd (omega (arith, l))
  numbered (suc n) k zero l = ap f (omega arith)
  numbered (suc n) k (suc i) l = numbered n (suc k) i (omega (arith, l)) ∙ ap f (omega arith)

  many : (n k : ℕ) → length (map f (numbers_from k n)) ≡ n
  unfolding numbers_from
  many zero k = refl
  many (suc n) k = ap suc (many n (suc k))

pub eight : (points : List ℕ) → length (read_slots points) ≡ 8
unfolding read_slots
eight points = many (λ k. read_slot (slot k points)) Slot.free 8 0

pub slot_at : (points : List ℕ) (i : ℕ) → i < 8 → get_or (read_slots points) i Slot.free ≡ read_slot (slot i points)
unfolding read_slots
slot_at points i l =
    let z : 0 + i ≡ i = omega arith in
    numbered (λ k. read_slot (slot k points)) Slot.free 8 0 i l ∙ ap (λ (k : ℕ). read_slot (slot k points)) z

pub put_read : (k : ℕ) (bytes points : List ℕ) → length bytes ≡ slot_length → points_length ≤ length points → k < 8 →
    read_slots (put k bytes points) ≡ set (read_slots points) k (read_slot bytes)
put_read k bytes points long enough l =
    ext_get_or Slot.free (read_slots (put k bytes points)) (set (read_slots points) k (read_slot bytes))
    (eight (put k bytes points) ∙ sym (length-set (read_slots points) k (read_slot bytes) ∙ eight points)) agree
  where
    in' : Reaches k points
    in' = omega (arith, enough, l)

    at : (i : ℕ) → i < 8 → read_slot (slot i (put k bytes points)) ≡ get_or (set (read_slots points) k (read_slot bytes)) i Slot.free
    at i b = elim (eqb_cases i k) [
      | inl p ↦
          ap (λ (j : ℕ). read_slot (slot j (put k bytes points))) p.1
          ∙ ap read_slot (put_same k bytes points long in')
          ∙ sym (get_or-set_same (read_slots points) k (read_slot bytes) Slot.free (let e = eight points in omega (arith, e, l)))
          ∙ ap (λ (j : ℕ). get_or (set (read_slots points) k (read_slot bytes)) j Slot.free) (sym p.1)
      | inr p ↦
          ap read_slot (put_other k bytes points long in' i p.1)
          ∙ sym (slot_at points i b)
          ∙ sym (get_or-set_other (read_slots points) k i (read_slot bytes) Slot.free p.1)
    ]

    agree : (i : ℕ) → i < length (read_slots (put k bytes points)) →
        get_or (read_slots (put k bytes points)) i Slot.free ≡ get_or (set (read_slots points) k (read_slot bytes)) i Slot.free
    agree i b = let c : i < 8 = (let e = eight (put k bytes points) in omega (arith, e, b)) in slot_at (put k bytes points) i c ∙ at i c

-- ALL ZERO

abbrev pub zeros : ℕ → List ℕ
zeros n = replicate n 0

pub length_zeros : (n : ℕ) → length (zeros n) ≡ n
length_zeros n = length-replicate n 0

drop_zeros : (a n : ℕ) → drop a (zeros n) ≡ zeros (n - a)
drop_zeros zero n = let e : n ≡ n - 0 = omega arith in ap zeros e
drop_zeros (suc a) zero = let e : 0 ≡ 0 - suc a = omega arith in ap zeros e
drop_zeros (suc a) (suc n) = let e : n - a ≡ suc n - suc a = omega arith in drop_zeros a n ∙ ap zeros e

pub take_zeros : (a n : ℕ) → a ≤ n → take a (zeros n) ≡ zeros a
take_zeros zero n l = refl
take_zeros (suc a) zero l = absurd (omega (arith, l))
take_zeros (suc a) (suc n) l = ap (λ (r : List ℕ). 0 ∷ r) (take_zeros a n (omega (arith, l)))

-- "its place is zeroed and free"
pub zeros_free : read_slot (zeros slot_length) ≡ Slot.free
unfolding read_slot
zeros_free = refl

-- "none in an all-zero buffer"
pub none_in_zeros : (n : ℕ) → points_length ≤ n → read_slots (zeros n) ≡ replicate 8 Slot.free
none_in_zeros n enough =
    ext_get_or Slot.free (read_slots (zeros n)) (replicate 8 Slot.free) (eight (zeros n)) (λ i l. let b : i < 8 = (let e = eight (zeros n) in omega (arith, e, l)) in
    slot_at (zeros n) i b ∙ ap read_slot (blank i b) ∙ zeros_free ∙ sym (get_or-replicate 8 i Slot.free Slot.free b))
  where
    blank : (i : ℕ) → i < 8 → slot i (zeros n) ≡ zeros slot_length
    blank i b = unfold slot in ap (take slot_length) (drop_zeros (i * slot_length) n) ∙ take_zeros slot_length (n - i * slot_length) (omega (arith, enough, b))
