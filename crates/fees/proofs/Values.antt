-- What is computed in an i64 is what is meant: an integer that fits is kept, and every one that is computed here fits. Assumes nothing.
use mathlib.Core.Bool.{Bool, true, false, true≢false}
use mathlib.Core.Path.{◌≡◌, refl, sym, ap, ◌∙◌}
use Prim.Native.Nat.{ℕ, zero, suc, ◌+◌, ◌*◌, ◌/◌, ◌%◌, ◌^◌, ◌≤◌, ◌<◌}
use native.Mathlib.Nat.{div-le_self, mod-le}
use native.Mathlib.Omega.{arith}
use lib.Dec.{le→leb}
use lib.IntN.{ℤ, pos, negsuc, neg_ℤ, nat_abs, ◌+ℤ◌, ◌-ℤ◌, ◌*ℤ◌, +ℤ_idl, +ℤ_idr, +ℤ_one, -ℤ_one, neg_ℤ-neg_ℤ, suc_ℤ, pred_ℤ}
use lib.Signed.{lt_z, quot_z, rem_z, ◌≤ℤ◌}
use mir.Syntax.{w64}
use mir.Val.{SFits, to_z, of_z}
use mir.Facts.{to_z-of_z}
use Rattle.paper.specs.Result.{if}
use Rattle.paper.proofs.Tests.{ltb_less}
use Rattle.fees.specs.Fees.{with_sign, fee, cut, rest}
use Rattle.fees.specs.Promises.{InRange}
use Rattle.fees.proofs.Signs.{size_of, sign_size, times, quotient, remainder, size_turned, fits}
use Rattle.fees.proofs.Sizes.{fee_size, fee_size_is, fee_small, fee_is, cut_is, rest_is}
use Rattle.fees.proofs.Laws.{product_small, refund_fee}

-- the integer that an i64 holds after z is put there
abbrev pub kept : ℤ → ℤ
kept z = to_z w64 (of_z w64 z)

pub kept_as : {z v : ℤ} → z ≡ v → SFits w64 v → kept z ≡ v
kept_as e f = rw e (to_z-of_z f)

-- every size below 2^63 fits
pub fits_size : (z : ℤ) → nat_abs z < 2 ^ 63 → SFits w64 z
fits_size z h = rw (size_of z) at (fits z (nat_abs z) h)

-- THE SIGN TURNED

less_zero : (z : ℤ) → pos 0 -ℤ z ≡ neg_ℤ z
less_zero z = +ℤ_idl (neg_ℤ z)

module _ {x y : ℤ} (p : y ≡ x) (h : nat_abs x < 2 ^ 63) where
  pub turned_fits : SFits w64 (pos 0 -ℤ y)
  turned_fits = rw (p, less_zero x) (fits_size (neg_ℤ x) (rw (size_turned x) h))

  pub turned_kept : kept (pos 0 -ℤ y) ≡ neg_ℤ x
  turned_kept = kept_as (ap (λ (z : ℤ). pos 0 -ℤ z) p ∙ less_zero x) (fits_size (neg_ℤ x) (rw (size_turned x) h))

-- PRODUCTS

-- a rate or share, widened
pub factor : {z v : ℤ} {k : ℕ} → v ≡ pos k → InRange z k → kept v ≡ pos k
factor {k = k} e r = kept_as e (fits_size (pos k) (omega (arith, r.factor)))

-- at most 10^12 × 10,000 in size
module _ (z : ℤ) (k : ℕ) (r : InRange z k) {x y : ℤ} (p : x ≡ z) (q : y ≡ pos k) where
  product_is : x *ℤ y ≡ with_sign z (nat_abs z * k)
  product_is = ap (λ (v : ℤ). v *ℤ y) p ∙ ap (λ (v : ℤ). z *ℤ v) q ∙ ap (λ (v : ℤ). v *ℤ pos k) (sym (size_of z)) ∙ times z (nat_abs z) k

  in_size : nat_abs z * k ≤ 10000000000000000
  in_size = product_small (nat_abs z) k r.size r.factor

  pub product_fits : SFits w64 (x *ℤ y)
  product_fits = rw product_is (fits z (nat_abs z * k) (omega (arith, in_size)))

  pub product_kept : kept (x *ℤ y) ≡ with_sign z (nat_abs z * k)
  product_kept = kept_as product_is (fits z (nat_abs z * k) (omega (arith, in_size)))

  -- cut toward zero
  quotient_is : quot_z (kept (x *ℤ y)) (pos 10000) ≡ with_sign z (nat_abs z * k / 10000)
  quotient_is = ap (λ (v : ℤ). quot_z v (pos 10000)) product_kept ∙ quotient z (nat_abs z * k) 10000

  quotient_small : nat_abs z * k / 10000 < 2 ^ 63
  quotient_small = omega (arith, in_size, div-le_self (nat_abs z * k) 10000)

  pub quotient_fits : SFits w64 (quot_z (kept (x *ℤ y)) (pos 10000))
  quotient_fits = rw quotient_is (fits z (nat_abs z * k / 10000) quotient_small)

  pub cut_kept : kept (quot_z (kept (x *ℤ y)) (pos 10000)) ≡ cut z k
  cut_kept =
      kept_as quotient_is (fits z (nat_abs z * k / 10000) quotient_small)
      ∙ sym (cut_is z (nat_abs z) k)
      ∙ ap (λ (v : ℤ). cut v k) (size_of z)

  -- what is cut off
  remainder_is : rem_z (kept (x *ℤ y)) (pos 10000) ≡ with_sign z (nat_abs z * k % 10000)
  remainder_is = ap (λ (v : ℤ). rem_z v (pos 10000)) product_kept ∙ remainder z (nat_abs z * k) 9999

  remainder_kept : kept (rem_z (kept (x *ℤ y)) (pos 10000)) ≡ with_sign z (nat_abs z * k % 10000)
  remainder_kept = kept_as remainder_is (fits z (nat_abs z * k % 10000) (omega (arith, in_size, mod-le (nat_abs z * k) 10000)))

  pub rest_size : nat_abs (kept (rem_z (kept (x *ℤ y)) (pos 10000))) ≡ rest z k
  rest_size =
      ap nat_abs remainder_kept
      ∙ sign_size z (nat_abs z * k % 10000)
      ∙ sym (rest_is z (nat_abs z) k)
      ∙ ap (λ (v : ℤ). rest v k) (size_of z)

  pub rest_small : nat_abs (kept (rem_z (kept (x *ℤ y)) (pos 10000))) < 2 ^ 63
  rest_small = rw (remainder_kept, sign_size) (omega (arith, in_size, mod-le (nat_abs z * k) 10000))

-- THE FEE

sign_pos : (z : ℤ) → pos 0 ≤ℤ z → (m : ℕ) → with_sign z m ≡ pos m
unfolding with_sign
sign_pos (pos n) s m = refl
sign_pos (negsuc n) s m = absurd s.le

-- of a payment: 5,000 more, cut toward zero
module _ (z : ℤ) (k : ℕ) (s : pos 0 ≤ℤ z) (r : InRange z k) {x y : ℤ} (p : x ≡ z) (q : y ≡ pos k) where
  payment_is : kept (x *ℤ y) +ℤ pos 5000 ≡ pos (nat_abs z * k + 5000)
  payment_is = ap (λ (v : ℤ). v +ℤ pos 5000) (product_kept z k r p q ∙ sign_pos z s (nat_abs z * k))

  payment_small : nat_abs z * k + 5000 < 2 ^ 63
  payment_small = omega (arith, product_small (nat_abs z) k r.size r.factor)

  pub payment_fits : SFits w64 (kept (x *ℤ y) +ℤ pos 5000)
  payment_fits = rw payment_is (fits_size (pos (nat_abs z * k + 5000)) payment_small)

  quotient_of : quot_z (kept (kept (x *ℤ y) +ℤ pos 5000)) (pos 10000) ≡ pos (fee_size (nat_abs z) k)
  quotient_of =
      ap (λ (v : ℤ). quot_z v (pos 10000)) (kept_as payment_is (fits_size (pos (nat_abs z * k + 5000)) payment_small))
      ∙ ap pos (fee_size_is (nat_abs z) k)

  fee_holds : SFits w64 (pos (fee_size (nat_abs z) k))
  fee_holds = fits_size (pos (fee_size (nat_abs z) k)) (omega (arith, fee_small (nat_abs z) k r.factor, r.size))

  pub payment_quotient : SFits w64 (quot_z (kept (kept (x *ℤ y) +ℤ pos 5000)) (pos 10000))
  payment_quotient = rw quotient_of fee_holds

  pub payment_fee : kept (quot_z (kept (kept (x *ℤ y) +ℤ pos 5000)) (pos 10000)) ≡ fee z k
  payment_fee = kept_as quotient_of fee_holds ∙ sym (fee_is z k ∙ sign_pos z s (fee_size (nat_abs z) k))

-- a fee is no larger than its amount
pub fee_fits : (z : ℤ) (k : ℕ) → InRange z k → nat_abs (fee z k) < 2 ^ 63
fee_fits z k r = rw (fee_is z k, sign_size) (omega (arith, fee_small (nat_abs z) k r.factor, r.size))

pub fee_kept : (z : ℤ) (k : ℕ) → InRange z k → {f : ℤ} → f ≡ fee z k → kept f ≡ fee z k
fee_kept z k r e = kept_as e (fits_size (fee z k) (fee_fits z k r))

-- of a refund: that of the payment, with the sign turned
module _ (z : ℤ) (k : ℕ) (r : InRange z k) {f : ℤ} (e : f ≡ fee (neg_ℤ z) k) where
  payment_turned : kept f ≡ neg_ℤ (fee z k)
  payment_turned =
      kept_as (e ∙ refund_fee z k r.factor) (fits_size (neg_ℤ (fee z k)) (rw (size_turned (fee z k)) (fee_fits z k r)))

  pub refund_fits : SFits w64 (pos 0 -ℤ kept f)
  refund_fits = turned_fits payment_turned (rw (size_turned (fee z k)) (fee_fits z k r))

  pub refund_kept : kept (pos 0 -ℤ kept f) ≡ fee z k
  refund_kept = turned_kept payment_turned (rw (size_turned (fee z k)) (fee_fits z k r)) ∙ neg_ℤ-neg_ℤ (fee z k)

pub positive_turned : (z : ℤ) → lt_z z (pos 0) ≡ true → pos 0 ≤ℤ neg_ℤ z
positive_turned (pos n) t = absurd (omega (arith, ltb_less n 0 t))
positive_turned (negsuc n) t = record { le = le→leb 0 (suc n) (omega arith) }

pub positive : (z : ℤ) → lt_z z (pos 0) ≡ false → pos 0 ≤ℤ z
positive (pos n) t = record { le = le→leb 0 n (omega arith) }
positive (negsuc n) t = absurd (true≢false t)

pub range_turned : (z : ℤ) (k : ℕ) → InRange z k → InRange (neg_ℤ z) k
range_turned z k r = record { size = rw (size_turned z) r.size; factor = r.factor }

-- PARTS

-- a cent more or less
more_fits : (z : ℤ) → nat_abs z < 2 ^ 62 → SFits w64 (suc_ℤ z)
more_fits (pos n) h = record { sfits = omega arith }
more_fits (negsuc zero) h = record { sfits = omega arith }
more_fits (negsuc (suc n)) h = record { sfits = omega arith }

less_fits : (z : ℤ) → nat_abs z < 2 ^ 62 → SFits w64 (pred_ℤ z)
less_fits (pos zero) h = record { sfits = omega arith }
less_fits (pos (suc n)) h = record { sfits = omega arith }
less_fits (negsuc n) h = record { sfits = omega arith }

-- a cut part is no larger than the product
cut_small : (z : ℤ) (k : ℕ) → InRange z k → nat_abs (cut z k) < 2 ^ 62
cut_small z k r =
    let e : nat_abs (cut z k) ≡ nat_abs z * k / 10000 =
    ap (λ (v : ℤ). nat_abs (cut v k)) (sym (size_of z)) ∙ ap nat_abs (cut_is z (nat_abs z) k) ∙ sign_size z (nat_abs z * k / 10000) in
    rw e (omega (arith, product_small (nat_abs z) k r.size r.factor, div-le_self (nat_abs z * k) 10000))

zero_sign : (a : ℤ) → with_sign a 0 ≡ pos 0
unfolding with_sign
zero_sign (pos n) = refl
zero_sign (negsuc n) = refl

below : (a : ℤ) → lt_z a (pos 0) ≡ true → with_sign a 1 ≡ neg_ℤ (pos 1)
unfolding with_sign
below (pos n) t = absurd (omega (arith, ltb_less n 0 t))
below (negsuc n) t = refl

above : (a : ℤ) → lt_z a (pos 0) ≡ false → with_sign a 1 ≡ pos 1
unfolding with_sign
above (pos n) t = refl
above (negsuc n) t = absurd (true≢false t)

pub cut_back : (z : ℤ) (k : ℕ) → InRange z k → {x : ℤ} → x ≡ cut z k → kept x ≡ cut z k
cut_back z k r e = kept_as e (fits_size (cut z k) (omega (arith, cut_small z k r)))

module _ (a z : ℤ) (k : ℕ) (r : InRange z k) {x : ℤ} (p : x ≡ cut z k) where
  pub cent_less_fits : SFits w64 (x -ℤ pos 1)
  cent_less_fits = rw (p, -ℤ_one) (less_fits (cut z k) (cut_small z k r))

  pub cent_more_fits : SFits w64 (x +ℤ pos 1)
  cent_more_fits = rw (p, +ℤ_one) (more_fits (cut z k) (cut_small z k r))

  pub no_cent : x ≡ cut z k +ℤ with_sign a 0
  no_cent = p ∙ sym (ap (λ (v : ℤ). cut z k +ℤ v) (zero_sign a) ∙ +ℤ_idr (cut z k))

  pub cent_less : lt_z a (pos 0) ≡ true → kept (x -ℤ pos 1) ≡ cut z k +ℤ with_sign a 1
  cent_less t = to_z-of_z cent_less_fits ∙ ap (λ (v : ℤ). v -ℤ pos 1) p ∙ ap (λ (v : ℤ). cut z k +ℤ v) (sym (below a t))

  pub cent_more : lt_z a (pos 0) ≡ false → kept (x +ℤ pos 1) ≡ cut z k +ℤ with_sign a 1
  cent_more t = to_z-of_z cent_more_fits ∙ ap (λ (v : ℤ). v +ℤ pos 1) p ∙ ap (λ (v : ℤ). cut z k +ℤ v) (sym (above a t))

-- with or without one
pub cents_fit : (a z : ℤ) (k : ℕ) → InRange z k → (b : Bool) → SFits w64 (cut z k +ℤ with_sign a (if b 1 0))
unfolding with_sign
cents_fit a z k r false = rw (zero_sign a, +ℤ_idr (cut z k)) (fits_size (cut z k) (omega (arith, cut_small z k r)))
cents_fit (pos n) z k r true = cent_more_fits (pos n) z k r refl
cents_fit (negsuc n) z k r true = cent_less_fits (negsuc n) z k r refl
