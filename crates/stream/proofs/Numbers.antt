-- Numbers of some bytes, the most significant first: two bytes, four, and the bytes of a number, which are read back as this number. Assumes nothing.
use mathlib.Core.List.{List, [], ◌∷◌, ◌++◌}
use mathlib.Core.Path.{◌≡◌, refl, sym, ap, ◌∙◌}
use Prim.Native.Nat.{ℕ, zero, suc, ◌+◌, ◌*◌, ◌/◌, ◌%◌, ◌^◌, ◌≤◌, ◌<◌}
use native.Mathlib.Numerals.{add-one}
use native.Mathlib.Omega.{arith}
use lib.ListN.{length, get_or, take, drop, length-append}
use lib.Seq.{drop-cons, drop-drop, take-add}
use Rattle.paper.specs.Page.{number}
use Rattle.stream.specs.Promises.{bytes}

-- SOME BYTES OF A LIST

two_bytes : (l : List ℕ) (at : ℕ) → at + 2 ≤ length l → take 2 (drop at l) ≡ get_or l at 0 ∷ get_or l (at + 1) 0 ∷ []
two_bytes l at h =
    ap (take 2) (drop-cons l at 0 (omega arith) ∙ ap (λ (xs : List ℕ). get_or l at 0 ∷ xs) (drop-cons l (suc at) 0 (omega arith)))
    ∙ ap (λ (i : ℕ). get_or l at 0 ∷ get_or l i 0 ∷ []) (sym (add-one at))

pub number_two : (l : List ℕ) (at : ℕ) → at + 2 ≤ length l → number 0 (take 2 (drop at l)) ≡ get_or l at 0 * 256 + get_or l (at + 1) 0
unfolding number
number_two l at h = ap (number 0) (two_bytes l at h) ∙ omega arith

number_both : (n : ℕ) (xs ys : List ℕ) → number n (xs ++ ys) ≡ number (number n xs) ys
unfolding number
number_both n [] ys = refl
number_both n (x ∷ xs) ys = number_both (n * 256 + x) xs ys

number_shift : (n a b : ℕ) → number n (a ∷ b ∷ []) ≡ n * 65536 + number 0 (a ∷ b ∷ [])
unfolding number
number_shift n a b = omega arith

pub number_four : (l : List ℕ) (at : ℕ) → at + 4 ≤ length l →
    number 0 (take 4 (drop at l)) ≡ number 0 (take 2 (drop at l)) * 65536 + number 0 (take 2 (drop (at + 2) l))
number_four l at h =
    let n : ℕ = number 0 (take 2 (drop at l)) in
    let e = two_bytes l (at + 2) (omega arith) in
    ap (number 0) (take-add 2 2 (drop at l))
    ∙ number_both 0 (take 2 (drop at l)) (take 2 (drop 2 (drop at l)))
    ∙ ap (λ (xs : List ℕ). number n (take 2 xs)) (drop-drop 2 at l)
    ∙ ap (number n) e
    ∙ number_shift n (get_or l (at + 2) 0) (get_or l (at + 2 + 1) 0)
    ∙ ap (λ (xs : List ℕ). n * 65536 + number 0 xs) (sym e)

-- THE BYTES OF A NUMBER

pub length_bytes : (n v : ℕ) → length (bytes n v) ≡ n
unfolding bytes
length_bytes zero v = refl
length_bytes (suc n) v = omega (arith, length-append (bytes n (v / 256)) (v % 256 ∷ []), length_bytes n (v / 256))

pub number_bytes : (n v : ℕ) → v < 256 ^ n → number 0 (bytes n v) ≡ v
unfolding bytes number
number_bytes zero v h = omega arith
number_bytes (suc n) v h =
    number_both 0 (bytes n (v / 256)) (v % 256 ∷ [])
    ∙ ap (λ (u : ℕ). u * 256 + v % 256) (number_bytes n (v / 256) (omega arith))
    ∙ omega arith
