-- Integers as a sign and a size: what sums, products, quotients and remainders do to sizes. Assumes nothing.
use mathlib.Core.List.{List, [], ◌∷◌, ◌++◌}
use mathlib.Core.Path.{◌≡◌, refl, sym, ap, ◌∙◌}
use Prim.Native.Nat.{ℕ, zero, suc, ◌+◌, ◌*◌, ◌-◌, ◌/◌, ◌%◌, ◌^◌, ◌≤◌, ◌<◌}
use native.Mathlib.Nat.{zero-mul, zero-div, mod-eq_of_lt}
use native.Mathlib.Omega.{arith}
use lib.IntN.{ℤ, pos, negsuc, neg_ℤ, nat_abs, ◌+ℤ◌, ◌-ℤ◌, ◌*ℤ◌, neg_ℤ-neg_ℤ, neg_ℤ-+ℤ, +ℤ-neg_ℤ_cancel, +ℤ_assoc, +ℤ_idl, +ℤ_idr}
use lib.Signed.{mag, quot_z, rem_z}
use mir.Syntax.{w64}
use mir.Val.{SFits}
use Rattle.fees.specs.Fees.{with_sign, sum}

pub size_of : (z : ℤ) → with_sign z (nat_abs z) ≡ z
unfolding with_sign
size_of (pos n) = refl
size_of (negsuc n) = refl

size_neg : (n : ℕ) → nat_abs (neg_ℤ (pos n)) ≡ n
size_neg zero = refl
size_neg (suc n) = refl

pub sign_size : (z : ℤ) (n : ℕ) → nat_abs (with_sign z n) ≡ n
unfolding with_sign
sign_size (pos m) n = refl
sign_size (negsuc m) n = size_neg n

neg_times : (n k : ℕ) → neg_ℤ (pos n) *ℤ pos k ≡ neg_ℤ (pos (n * k))
neg_times zero k = rw (zero-mul k)
neg_times (suc n) k = refl

pub times : (z : ℤ) (n k : ℕ) → with_sign z n *ℤ pos k ≡ with_sign z (n * k)
unfolding with_sign
times (pos m) n k = refl
times (negsuc m) n k = neg_times n k

neg_quotient : (n k : ℕ) → quot_z (neg_ℤ (pos n)) (pos k) ≡ neg_ℤ (pos (n / k))
neg_quotient zero k = rw (zero-div k)
neg_quotient (suc n) k = refl

pub quotient : (z : ℤ) (n k : ℕ) → quot_z (with_sign z n) (pos k) ≡ with_sign z (n / k)
unfolding with_sign
quotient (pos m) n k = refl
quotient (negsuc m) n k = neg_quotient n k

neg_remainder : (n k : ℕ) → rem_z (neg_ℤ (pos n)) (pos (suc k)) ≡ neg_ℤ (pos (n % suc k))
neg_remainder zero k = rw (mod-eq_of_lt {n = zero} {m = suc k} (omega arith))
neg_remainder (suc n) k = refl

pub remainder : (z : ℤ) (n k : ℕ) → rem_z (with_sign z n) (pos (suc k)) ≡ with_sign z (n % suc k)
unfolding with_sign
remainder (pos m) n k = refl
remainder (negsuc m) n k = neg_remainder n k

pub plus : (z : ℤ) (m n : ℕ) → with_sign z m +ℤ with_sign z n ≡ with_sign z (m + n)
unfolding with_sign
plus (pos k) m n = refl
plus (negsuc k) m n = sym (neg_ℤ-+ℤ (pos m) (pos n))

pub minus : (z : ℤ) (m n : ℕ) → n ≤ m → with_sign z m -ℤ with_sign z n ≡ with_sign z (m - n)
minus z m n h =
    let e : m - n + n ≡ m = omega arith in
    ap (λ (k : ℕ). with_sign z k -ℤ with_sign z n) (sym e)
    ∙ ap (λ (x : ℤ). x -ℤ with_sign z n) (sym (plus z (m - n) n))
    ∙ +ℤ-neg_ℤ_cancel (with_sign z (m - n)) (with_sign z n)

-- the other sign; 0 has none to turn
turn : (k m n : ℕ) → n ≤ k → with_sign (neg_ℤ (pos k)) n ≡ neg_ℤ (pos n)
unfolding with_sign
turn zero m zero h = refl
turn zero m (suc n) h = absurd (omega arith)
turn (suc k) m n h = refl

pub turned : (z : ℤ) (n : ℕ) → n ≤ nat_abs z → with_sign (neg_ℤ z) n ≡ neg_ℤ (with_sign z n)
unfolding with_sign
turned (pos k) n h = turn k k n h
turned (negsuc k) n h = sym (neg_ℤ-neg_ℤ (pos n))

pub size_turned : (z : ℤ) → nat_abs (neg_ℤ z) ≡ nat_abs z
size_turned (pos zero) = refl
size_turned (pos (suc n)) = refl
size_turned (negsuc n) = refl

-- an i64 holds sizes below 2^63 of either sign
neg_fits : (n : ℕ) → n < 2 ^ 63 → mag (neg_ℤ (pos n)) < 2 ^ 63
neg_fits zero h = h
neg_fits (suc n) h = omega arith

pub fits : (z : ℤ) (n : ℕ) → n < 2 ^ 63 → SFits w64 (with_sign z n)
unfolding with_sign
fits (pos m) n h = record { sfits = h }
fits (negsuc m) n h = record { sfits = neg_fits n h }

-- SUMS

pub sum_snoc : (zs : List ℤ) (z : ℤ) → sum (zs ++ (z ∷ [])) ≡ sum zs +ℤ z
unfolding sum
sum_snoc [] z = +ℤ_idr z ∙ sym (+ℤ_idl z)
sum_snoc (y ∷ zs) z = ap (λ (x : ℤ). y +ℤ x) (sum_snoc zs z) ∙ sym (+ℤ_assoc y (sum zs) z)
