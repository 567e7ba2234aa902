-- A field in its place: the window's three bytes give it and take it, and no other bit depends on it. Assumes nothing.
use mathlib.Core.List.{List, [], ◌∷◌, ◌++◌, append_assoc}
use mathlib.Core.Path.{◌≡◌, refl, sym, ap, ap₂, ◌∙◌}
use Prim.Native.Nat.{ℕ, zero, suc, ◌+◌, ◌-◌, ◌*◌, ◌/◌, ◌%◌, ◌^◌, ◌≤◌, ◌<◌}
use native.Mathlib.Nat.{suc-add, mod-lt}
use native.Mathlib.Omega.{arith}
use lib.ListN.{length, get_or, take, drop, set, length-append, length-drop}
use lib.Pow.{pow_pos, split}
use lib.Seq.{take-length, length-take-le, set-get_or, take-append-add, drop_at, drop-drop}
use Rattle.paper.specs.Result.{return}
use Rattle.paper.specs.Bits.{to_bits, bits_of, field}
use Rattle.paper.proofs.Bits.{length_to_bits, field_to_bits}
use Rattle.paper.proofs.Bytes.{length_bits_of, bits_of_append}
use Rattle.bits.specs.Field.{splice}
use Rattle.bits.specs.Window.{Window, set3, renewed}
use Rattle.bits.proofs.Bytes.{three, bits_of_take}
use Rattle.bits.proofs.Splice.{splice_middle}

-- three bytes from i on: the list with them, cut where it ended
set_three : (i : ℕ) (xs : List ℕ) (a b c : ℕ) → i ≤ length xs →
    set (set (set xs i a) (i + 1) b) (i + 2) c ≡ take (length xs) (take i xs ++ (a ∷ b ∷ c ∷ drop (i + 3) xs))
set_three zero [] a b c h = refl
set_three zero (x ∷ []) a b c h = refl
set_three zero (x ∷ y ∷ []) a b c h = refl
set_three zero (x ∷ y ∷ z ∷ xs) a b c h = ap (λ (l : List ℕ). a ∷ b ∷ c ∷ l) (sym (take-length xs))
set_three (suc i) [] a b c h = absurd (omega arith)
set_three (suc i) (x ∷ xs) a b c h = rw (suc-add i 1, suc-add i 2, suc-add i 3) (ap (λ (l : List ℕ). x ∷ l) (set_three i xs a b c (omega arith)))

three_bytes : (x : ℕ) (xs : List ℕ) → bits_of (x / 65536 ∷ x / 256 % 256 ∷ x % 256 ∷ xs) ≡ to_bits 24 x ++ bits_of xs
unfolding bits_of
three_bytes x xs =
    let e : (x / 65536 * 256 + x / 256 % 256) * 256 + x % 256 ≡ x = omega arith in
    ap (λ (l : List ℕ). l ++ bits_of xs) (sym (three 8 8 8 (x / 65536) (x / 256 % 256) (x % 256) (omega arith) (omega arith)) ∙ ap (to_bits 24) e)

-- the bits of the bytes with a window set
set3_bits : (bytes : List ℕ) (i x : ℕ) → i ≤ length bytes →
    bits_of (set3 bytes i x) ≡ take (8 * length bytes) (bits_of (take i bytes) ++ (to_bits 24 x ++ bits_of (drop (i + 3) bytes)))
set3_bits bytes i x h =
    let new = x / 65536 ∷ x / 256 % 256 ∷ x % 256 ∷ drop (i + 3) bytes in
    ap bits_of (set_three i bytes _ _ _ h)
    ∙ bits_of_take (length bytes) (take i bytes ++ new) (simp (length-append, length-drop, length-take-le i bytes h) (omega arith))
    ∙ ap (take (8 * length bytes))
    (bits_of_append (take i bytes) new ∙ ap (λ (l : List ℕ). bits_of (take i bytes) ++ l) (three_bytes x (drop (i + 3) bytes)))

set3_same : (bytes : List ℕ) (i w : ℕ) → Window bytes i w → set3 bytes i w ≡ bytes
set3_same bytes i w W =
    let a : w / 65536 ≡ get_or bytes i 0 = omega arith in
    let b : w / 256 % 256 ≡ get_or bytes (i + 1) 0 = omega arith in
    let c : w % 256 ≡ get_or bytes (i + 2) 0 = omega arith in
    rw (a, b, c) (rw (set-get_or bytes i 0, set-get_or bytes (i + 1) 0, set-get_or bytes (i + 2) 0))

take_two : (xs ys zs : List ℕ) (m : ℕ) → take (length xs + (length ys + m)) (xs ++ (ys ++ zs)) ≡ xs ++ (ys ++ take m zs)
take_two xs ys zs m = take-append-add xs (ys ++ zs) (length ys + m) ∙ ap (λ (l : List ℕ). xs ++ l) (take-append-add ys zs m)

-- w is the window at the first byte of the field of n bits at position at. Whatever value the field is given, the same bits stand before it
-- and behind it; given the value that it has, the bytes stay as they are.
module _ (bytes : List ℕ) (at n w : ℕ) where
  -- how many bits of the window stand behind the field
  abbrev low : ℕ
  low = 24 - at % 8 - n

  abbrev old : ℕ
  old = w / 2 ^ low % 2 ^ n

  abbrev before : List ℕ
  before = bits_of (take (at / 8) bytes) ++ to_bits (at % 8) (w / 2 ^ low / 2 ^ n)

  abbrev rest : List ℕ
  rest = to_bits low (w % 2 ^ low) ++ bits_of (drop (at / 8 + 3) bytes)

  abbrev behind : List ℕ
  behind = take (8 * length bytes - (at + n)) rest

  module _ (k : n ≤ 16) (h : at + n ≤ 8 * length bytes) where
    length_before : length before ≡ at
    length_before =
        let e : length (take (at / 8) bytes) ≡ at / 8 = length-take-le (at / 8) bytes (omega arith) in
        simp (length-append, length_bits_of, length_to_bits, e) (omega arith)

    held : (v : ℕ) → v < 2 ^ n → bits_of (set3 bytes (at / 8) (renewed w low n v)) ≡ before ++ (to_bits n v ++ behind)
    held v lt =
        let x = renewed w low n v in
        let e : 24 ≡ (at % 8 + n) + low = omega arith in
        let f : 8 * length bytes ≡ length before + (length (to_bits n v) + (8 * length bytes - (at + n))) =
        omega (arith, length_before, length_to_bits n v) in
        set3_bits bytes (at / 8) x (omega arith)
        ∙ ap₂ (λ (m : ℕ) (l : List ℕ). take m (bits_of (take (at / 8) bytes) ++ (l ++ bits_of (drop (at / 8 + 3) bytes)))) f
        (ap (λ (m : ℕ). to_bits m x) e ∙ three (at % 8) n low _ v _ lt (mod-lt w (pow_pos low)))
        ∙ simp append_assoc (simp append_assoc at (take_two before (to_bits n v) rest (8 * length bytes - (at + n))))

    old_small : old < 2 ^ n
    old_small = mod-lt (w / 2 ^ low) (pow_pos n)

    module _ (W : Window bytes (at / 8) w) where
      holds : bits_of bytes ≡ before ++ (to_bits n old ++ behind)
      holds =
          let e : renewed w low n old ≡ w = ap (λ (x : ℕ). x * 2 ^ low + w % 2 ^ low) (split (w / 2 ^ low) n) ∙ split w low in
          sym (ap (λ (x : ℕ). bits_of (set3 bytes (at / 8) x)) e ∙ ap bits_of (set3_same bytes (at / 8) w W))
          ∙ held old old_small

      -- the field is read from the window, and written by it
      pub read_window : field n (drop at (bits_of bytes)) ≡ return old (drop (at + n) (bits_of bytes))
      read_window =
          let here : drop at (bits_of bytes) ≡ to_bits n old ++ behind =
          ap (drop at) holds ∙ drop_at before (to_bits n old ++ behind) at length_before in
          let next : drop (at + n) (bits_of bytes) ≡ behind =
          sym (drop-drop n at (bits_of bytes)) ∙ ap (drop n) here ∙ drop_at (to_bits n old) behind n (length_to_bits n old) in
          ap (field n) here ∙ field_to_bits n old behind old_small ∙ ap (return old) (sym next)

      pub write_window : (v x : ℕ) → v < 2 ^ n → x ≡ renewed w low n v → bits_of (set3 bytes (at / 8) x) ≡ splice (bits_of bytes) at (to_bits n v)
      write_window v x lt e =
          ap (λ (y : ℕ). bits_of (set3 bytes (at / 8) y)) e ∙ held v lt
          ∙ sym (ap (λ (l : List ℕ). splice l at (to_bits n v)) holds
          ∙ splice_middle before (to_bits n old) behind (to_bits n v) at length_before (length_to_bits n v ∙ sym (length_to_bits n old)))
