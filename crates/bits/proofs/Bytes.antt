-- Numbers side by side have their bits one after another, and so have bytes. Assumes nothing.
use mathlib.Core.List.{List, ◌∷◌, ◌++◌, append_assoc}
use mathlib.Core.Path.{◌≡◌, refl, sym, ap, ap₂, ◌∙◌}
use Prim.Native.Nat.{ℕ, zero, suc, ◌+◌, ◌*◌, ◌/◌, ◌%◌, ◌^◌, ◌≤◌, ◌<◌}
use native.Mathlib.Nat.{zero-add, suc-add, add_comm, suc-mul, mul-le-mul_right}
use native.Mathlib.Omega.{arith}
use lib.ListN.{length, take, drop, take-append-drop}
use lib.Pow.{shr-shr, high, low, field, mod-mod-pow, pow-add}
use lib.Seq.{take_at, length-take-le}
use Rattle.paper.specs.Bits.{to_bits, bits_of}
use Rattle.paper.proofs.Bytes.{length_bits_of, bits_of_append}

-- the m bits above the n low ones, and these
pub split : (m n v : ℕ) → to_bits (m + n) v ≡ to_bits m (v / 2 ^ n) ++ to_bits n v
unfolding to_bits
split zero n v = ap (λ (k : ℕ). to_bits k v) (zero-add n)
split (suc m) n v =
    let e : v / 2 ^ (m + n) ≡ v / 2 ^ n / 2 ^ m = ap (λ (k : ℕ). v / 2 ^ k) (add_comm m n) ∙ sym (shr-shr v n m) in
    rw (suc-add m n) (ap₂ (λ (x : ℕ) (xs : List ℕ). x % 2 ∷ xs) e (split m n v))

-- the n low bits do not see what stands above them
low_bits : (k n v : ℕ) → to_bits n (v % 2 ^ (k + n)) ≡ to_bits n v
unfolding to_bits
low_bits k zero v = refl
low_bits k (suc n) v =
    let e : k + suc n ≡ (k + 1) + n = omega arith in
    let bit : v % 2 ^ ((k + 1) + n) / 2 ^ n % 2 ≡ v / 2 ^ n % 2 = ap (λ (x : ℕ). x % 2) (field v (k + 1) n) ∙ mod-mod-pow (v / 2 ^ n) k 1 in
    rw e (ap₂ (λ (x : ℕ) (xs : List ℕ). x ∷ xs) bit (low_bits (k + 1) n v))

-- two numbers side by side
pub two : (m n h l : ℕ) → l < 2 ^ n → to_bits (m + n) (h * 2 ^ n + l) ≡ to_bits m h ++ to_bits n l
two m n h l k =
    let x = h * 2 ^ n + l in
    let e : to_bits n x ≡ to_bits n l =
    sym (low_bits 0 n x) ∙ ap (λ (i : ℕ). to_bits n (x % 2 ^ i)) (zero-add n) ∙ ap (to_bits n) (low h n k) in
    split m n x ∙ ap₂ (λ (y : ℕ) (ys : List ℕ). to_bits m y ++ ys) (high h n k) e

two_lt : (m n h l : ℕ) → h < 2 ^ m → l < 2 ^ n → h * 2 ^ n + l < 2 ^ (m + n)
two_lt m n h l i k =
    let j : suc h ≤ 2 ^ m = omega arith in
    omega (arith, mul-le-mul_right (2 ^ n) j, suc-mul h (2 ^ n), pow-add 2 m n)

-- three numbers side by side
pub three : (r n m h u l : ℕ) → u < 2 ^ n → l < 2 ^ m →
    to_bits ((r + n) + m) ((h * 2 ^ n + u) * 2 ^ m + l) ≡ to_bits r h ++ (to_bits n u ++ to_bits m l)
three r n m h u l i j =
    two (r + n) m (h * 2 ^ n + u) l j
    ∙ ap (λ (xs : List ℕ). xs ++ to_bits m l) (two r n h u i)
    ∙ append_assoc (to_bits r h) (to_bits n u) (to_bits m l)

pub three_lt : (r n m h u l : ℕ) → h < 2 ^ r → u < 2 ^ n → l < 2 ^ m →
    (h * 2 ^ n + u < 2 ^ (r + n)) × ((h * 2 ^ n + u) * 2 ^ m + l < 2 ^ ((r + n) + m))
three_lt r n m h u l i j k = let y = two_lt r n h u i j in (y, two_lt (r + n) m (h * 2 ^ n + u) l y k)

pub bits_of_take : (k : ℕ) (bytes : List ℕ) → k ≤ length bytes → bits_of (take k bytes) ≡ take (8 * k) (bits_of bytes)
bits_of_take k bytes h =
    let e : length (bits_of (take k bytes)) ≡ 8 * k = length_bits_of (take k bytes) ∙ ap (λ (m : ℕ). 8 * m) (length-take-le k bytes h) in
    sym (take_at (bits_of (take k bytes)) (bits_of (drop k bytes)) (8 * k) e)
    ∙ ap (take (8 * k)) (sym (bits_of_append (take k bytes) (drop k bytes)) ∙ ap bits_of (take-append-drop k bytes))
