-- Nine bits ahead of a position: two bytes hold them, and they begin with whatever field stands there. Assumes nothing.
use mathlib.Core.List.{List, [], ◌∷◌, ◌++◌, append_assoc}
use mathlib.Core.Path.{◌≡◌, refl, sym, ap, ap₂, ◌∙◌}
use Prim.Native.Nat.{ℕ, zero, suc, ◌+◌, ◌-◌, ◌*◌, ◌/◌, ◌%◌, ◌^◌, ◌≤◌, ◌<◌}
use native.Mathlib.Nat.{suc-add, mod-lt, mod-eq_of_lt}
use native.Mathlib.Omega.{arith}
use lib.ListN.{length, get_or, take, drop, get_or-eq_default, replicate, drop_of_length-le, length-append, take-append-drop}
use lib.Pow.{pow_pos, shr_le, shr_mod}
use lib.Pow as pow
use lib.Seq.{take_at, drop_at, drop-drop, take-take, take-append-le, drop-append-le, drop-append-add}
use Rattle.paper.specs.Bits.{to_bits, value, bits_of}
use Rattle.paper.proofs.Bits.{length_to_bits, value_to_bits}
use Rattle.bits.specs.Field.{Pair, Nine}
use Rattle.bits.proofs.Bytes.{split, two, three}
use Rattle.bits.proofs.Reading.{bits_left}

-- Two bytes

-- the nine bits behind the first k of sixteen
inside : (k w : ℕ) (ys : List ℕ) → k < 8 → to_bits 9 (w / 2 ^ (7 - k) % 512) ≡ take 9 (drop k (to_bits 16 w ++ ys))
inside k w ys h =
    let m = 7 - k in
    let u = w / 2 ^ m % 512 in
    let t = to_bits k (w / 2 ^ m / 512) in
    let e : (w / 2 ^ m / 512 * 512 + u) * 2 ^ m + w % 2 ^ m ≡ w = ap (λ (x : ℕ). x * 2 ^ m + w % 2 ^ m) (pow.split (w / 2 ^ m) 9) ∙ pow.split w m in
    let s : to_bits 16 w ≡ t ++ (to_bits 9 u ++ to_bits m (w % 2 ^ m)) =
    ap₂ to_bits (omega arith) (sym e) ∙ three k 9 m (w / 2 ^ m / 512) u (w % 2 ^ m) (mod-lt (w / 2 ^ m) (pow_pos 9)) (mod-lt w (pow_pos m)) in
    sym (ap (λ (l : List ℕ). take 9 (drop k (l ++ ys))) s
    ∙ ap (λ (l : List ℕ). take 9 (drop k l)) (append_assoc t (to_bits 9 u ++ to_bits m (w % 2 ^ m)) ys)
    ∙ ap (take 9) (drop_at t _ k (length_to_bits k _) ∙ append_assoc (to_bits 9 u) (to_bits m (w % 2 ^ m)) ys)
    ∙ take_at (to_bits 9 u) (to_bits m (w % 2 ^ m) ++ ys) 9 (length_to_bits 9 u))

-- the same from the first of two bytes on
ahead_here : (k b c : ℕ) (ys : List ℕ) → k < 8 → c < 256 → to_bits 9 ((b * 256 + c) / 2 ^ (7 - k) % 512) ≡ take 9 (drop k (to_bits 8 b) ++ (to_bits 8 c ++ ys))
ahead_here k b c ys h l =
    inside k (b * 256 + c) ys h
    ∙ ap (λ (xs : List ℕ). take 9 (drop k xs)) (ap (λ (xs : List ℕ). xs ++ ys) (two 8 8 b c l) ∙ append_assoc (to_bits 8 b) (to_bits 8 c) ys)
    ∙ ap (take 9) (drop-append-le k (to_bits 8 b) (to_bits 8 c ++ ys) (omega (arith, length_to_bits 8 b)))

ahead : (bytes : List ℕ) (i k b c : ℕ) → k < 8 → b ≡ get_or bytes i 0 → c ≡ get_or bytes (i + 1) 0 → c < 256 →
    to_bits 9 ((b * 256 + c) / 2 ^ (7 - k) % 512) ≡ take 9 (drop (8 * i + k) (bits_of bytes) ++ replicate 9 0)
unfolding bits_of to_bits
ahead [] i k b c h e f l =
    let z : (b * 256 + c) / 2 ^ (7 - k) % 512 ≡ 0 = omega (arith, shr_le (b * 256 + c) (7 - k)) in
    let n : length {A = ℕ} [] ≤ 8 * i + k = omega arith in
    ap (to_bits 9) z ∙ ap (λ (xs : List ℕ). take 9 (xs ++ replicate 9 0)) (sym (drop_of_length-le [] n))
ahead (x ∷ []) zero k b c h e f l =
    let j : 8 * 0 + k ≡ k = omega arith in
    ap₂ (λ (y z : ℕ). to_bits 9 ((y * 256 + z) / 2 ^ (7 - k) % 512)) e f
    ∙ ahead_here k x 0 (0 ∷ []) h (omega arith)
    ∙ rw j refl
ahead (x ∷ y ∷ xs) zero k b c h e f l =
    let j : 8 * 0 + k ≡ k = omega arith in
    ap₂ (λ (y z : ℕ). to_bits 9 ((y * 256 + z) / 2 ^ (7 - k) % 512)) e f
    ∙ ahead_here k x y (bits_of xs ++ replicate 9 0) h (omega arith)
    ∙ rw j (ap (take 9) (sym (ap (λ (l : List ℕ). l ++ replicate 9 0) (drop-append-le k (to_bits 8 x) (to_bits 8 y ++ bits_of xs) (omega (arith, length_to_bits 8 x)))
    ∙ append_assoc (drop k (to_bits 8 x)) (to_bits 8 y ++ bits_of xs) (replicate 9 0))))
ahead (x ∷ xs) (suc i) k b c h e f l =
    let j : 8 * suc i + k ≡ length (to_bits 8 x) + (8 * i + k) = omega (arith, length_to_bits 8 x) in
    ahead xs i k b c h e (f ∙ ap (λ (n : ℕ). get_or (x ∷ xs) n 0) (suc-add i 1)) l
    ∙ ap (λ (ys : List ℕ). take 9 (ys ++ replicate 9 0)) (sym (ap (λ (n : ℕ). drop n (to_bits 8 x ++ bits_of xs)) j ∙ drop-append-add (to_bits 8 x) (bits_of xs) (8 * i + k)))

-- two bytes, where the second is not there
pub pair_end : {bytes : List ℕ} {i b : ℕ} → b ≡ get_or bytes i 0 → length bytes ≤ i + 1 → Pair bytes i (b * 256)
pair_end {bytes} {i} e l =
    let z : get_or bytes (i + 1) 0 ≡ 0 = get_or-eq_default bytes 0 l in
    record { is = omega arith; low = omega arith }

pub nine_read : (bytes : List ℕ) (at w p r : ℕ) → Pair bytes (at / 8) w → p ≡ 2 ^ (7 - at % 8) → r ≡ w / p % 512 → Nine bytes at r
nine_read bytes at w p r e q s =
    let j : 8 * (at / 8) + at % 8 ≡ at = omega arith in
    record {
      is = rw (s, q, e.is) (ahead bytes (at / 8) (at % 8) _ _ (omega arith) refl refl e.low ∙ ap (λ (k : ℕ). take 9 (drop k (bits_of bytes) ++ replicate 9 0)) j);
      small = omega arith;
    }

-- What stands there

module _ {bytes : List ℕ} {at r : ℕ} (N : Nine bytes at r) (n m : ℕ) (e : n + m ≡ 9) where
  first : to_bits n (r / 2 ^ m) ≡ take n (drop at (bits_of bytes) ++ replicate 9 0)
  first =
      sym (take_at (to_bits n (r / 2 ^ m)) (to_bits m r) n (length_to_bits n _))
      ∙ ap (take n) (sym (split n m r) ∙ ap (λ (k : ℕ). to_bits k r) e ∙ N.is)
      ∙ take-take n 9 (drop at (bits_of bytes) ++ replicate 9 0) (omega arith)

  -- the first n of the nine bits stand there, if so many are left
  pub stand_first : n ≤ 8 * length bytes - at → drop at (bits_of bytes) ≡ to_bits n (r / 2 ^ m) ++ drop (at + n) (bits_of bytes)
  stand_first l =
      let xs = drop at (bits_of bytes) in
      let h : n ≤ length xs = omega (arith, bits_left bytes at) in
      sym (take-append-drop n xs) ∙ ap₂ (λ (ys zs : List ℕ). ys ++ zs) (sym (first ∙ take-append-le n xs (replicate 9 0) h)) (drop-drop n at (bits_of bytes))

  -- a field of n bits that stands there
  module _ (v : ℕ) (rest : List ℕ) (h : v < 2 ^ n) (there : drop at (bits_of bytes) ≡ to_bits n v ++ rest) where
    -- it is what the nine bits begin with
    pub begins : r / 2 ^ m ≡ v
    begins =
        let s : to_bits n (r / 2 ^ m) ≡ to_bits n v =
        first
        ∙ ap (take n) (ap (λ (l : List ℕ). l ++ replicate 9 0) there ∙ append_assoc (to_bits n v) rest (replicate 9 0))
        ∙ take_at (to_bits n v) (rest ++ replicate 9 0) n (length_to_bits n v) in
        let b : r < 2 ^ (n + m) = rw e N.small in
        sym (shr_mod n m b) ∙ sym (value_to_bits n (r / 2 ^ m)) ∙ ap value s ∙ value_to_bits n v ∙ mod-eq_of_lt h

    -- and the others stand behind it
    pub begins_rest : drop (at + n) (bits_of bytes) ≡ rest
    begins_rest = sym (drop-drop n at (bits_of bytes)) ∙ ap (drop n) there ∙ drop_at (to_bits n v) rest n (length_to_bits n v)

    pub begins_inside : 0 < n → at + n ≤ 8 * length bytes
    begins_inside p = omega (arith, bits_left bytes at, ap length there, length-append (to_bits n v) rest, length_to_bits n v)
