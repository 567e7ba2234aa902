-- Bytes by their bits, and zeros. Assumes nothing.
use mathlib.Core.List.{List, [], ◌∷◌, ◌++◌}
use mathlib.Core.Path.{◌≡◌, refl, sym, ap, ap₂, ◌∙◌}
use Prim.Native.Nat.{ℕ, zero, suc, ◌+◌, ◌*◌, ◌^◌, ◌<◌}
use native.Mathlib.Nat.{mod-eq_of_lt}
use native.Mathlib.Numerals.{add-one}
use native.Mathlib.Omega.{arith}
use lib.ListN.{length, get_or, replicate, replicate-append-replicate}
use lib.Seq.{take_at, drop_at}
use Rattle.paper.specs.Bits.{to_bits, value, bits_of, bytes_from}
use Rattle.paper.specs.Sound.{All}
use Rattle.paper.proofs.Bits.{length_to_bits, value_to_bits}
use Rattle.paper.proofs.Bytes.{length_bits_of}
use Rattle.stream.specs.Promises.{bytes}

-- bytes are those that hold their bits
bytes_back : (xs : List ℕ) → All (λ b. b < 256) xs → bytes_from (length xs) (bits_of xs) ≡ xs
unfolding bytes_from bits_of
bytes_back [] h = refl
bytes_back (x ∷ xs) h =
    ap₂ ◌∷◌
    (ap value (take_at (to_bits 8 x) (bits_of xs) 8 (length_to_bits 8 x)) ∙ value_to_bits 8 x ∙ mod-eq_of_lt {m = 2 ^ 8} h.0)
    (ap (bytes_from (length xs)) (drop_at (to_bits 8 x) (bits_of xs) 8 (length_to_bits 8 x)) ∙ bytes_back xs h.1)

-- so their bits tell them apart
pub bytes_same : (xs ys : List ℕ) → All (λ b. b < 256) xs → All (λ b. b < 256) ys → bits_of xs ≡ bits_of ys → xs ≡ ys
bytes_same xs ys h k e =
    let l : length xs ≡ length ys = omega (arith, length_bits_of xs, length_bits_of ys, ap length e) in
    sym (bytes_back xs h) ∙ ap₂ bytes_from l e ∙ bytes_back ys k

pub all_bytes : (xs : List ℕ) → ((i : ℕ) → get_or xs i 0 < 256) → All (λ b. b < 256) xs
all_bytes [] h = tt
all_bytes (x ∷ xs) h = (h 0, all_bytes xs (λ i. h (suc i)))

-- ZEROS

pub bits_zeros : (n : ℕ) → bits_of (replicate n 0) ≡ replicate (8 * n) 0
unfolding bits_of to_bits
bits_zeros zero = refl
bits_zeros (suc n) =
    let e : 8 + 8 * n ≡ 8 * suc n = omega arith in
    ap (λ (l : List ℕ). to_bits 8 0 ++ l) (bits_zeros n) ∙ replicate-append-replicate 8 (8 * n) 0 ∙ ap (λ (k : ℕ). replicate k 0) e

pub bytes_zeros : (n : ℕ) → bytes n 0 ≡ replicate n 0
unfolding bytes
bytes_zeros zero = refl
bytes_zeros (suc n) =
    ap (λ (l : List ℕ). l ++ (0 ∷ [])) (bytes_zeros n) ∙ replicate-append-replicate n 1 0 ∙ ap (λ (k : ℕ). replicate k 0) (add-one n)
