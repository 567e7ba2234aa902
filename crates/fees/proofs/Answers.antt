-- The code's answers against the definition's, check by check. Assumes nothing.
use mathlib.Core.Bool.{true, false}
use mathlib.Core.List.{List, ◌++◌}
use mathlib.Core.Option.{Option, none, some}
use mathlib.Core.Path.{◌≡◌, refl, ap, ◌∙◌}
use Prim.Native.Nat.{ℕ, ◌≤◌, ◌<◌}
use native.Mathlib.Omega.{arith}
use lib.IntN.{ℤ, nat_abs, ◌-ℤ◌}
use lib.ListN.{length, drop}
use mir.Syntax.{w64}
use mir.Val.{SFits}
use Rattle.paper.specs.Result.{Result, refused, accepted}
use Rattle.std.specs.Prelude.{Ok, Err}
use Rattle.refusal.specs.Numbers.{number}
use Rattle.refusal.specs.declared.Refusal.{Refusal}
use Rattle.paper.proofs.Tests.{ltb_true, ltb_false}
use Rattle.fees.specs.Fees.{fee, net_of, part, parts, root_rate, are_shares, Charge, charge_by, charge}
use Rattle.fees.specs.Spec.{ChargedAs}
use Rattle.fees.specs.Promises.{InRange, Splits}
use Rattle.fees.proofs.Signs.{sign_size}
use Rattle.fees.proofs.Sizes.{net_is}
use Rattle.fees.proofs.Laws.{shared, length_listed}
use Rattle.fees.proofs.Values.{kept, kept_as, fits_size, fee_kept}

-- A REFUSAL, A CHARGE

pub refused_as : {of : Result Charge} {l : List ℤ} {k : Refusal} → of ≡ refused (number k) → ChargedAs of l l (Err k)
refused_as e = rw e (record { answer = refl; unchanged = λ k h. refl; written = λ C h. let z : ◌≡◌ {A = ℕ} 0 1 = cc in absurd (omega arith) })

pub charged_as : {of : Result Charge} {l l' : List ℤ} {f : ℤ} {C : Charge} → of ≡ accepted C → f ≡ C.fee → l' ≡ C.parts ++ drop (length C.parts) l →
    ChargedAs of l l' (Ok f)
charged_as {l = l} {l' = l'} {C = C} e f w =
    rw e (record {
      answer = ap accepted f;
      unchanged = λ k h. let z : ◌≡◌ {A = ℕ} 0 1 = cc in absurd (omega arith);
      written = λ C' h. let d : C ≡ C' = cc in rw d at w;
    })

-- BY THE RATE

module _ {o : Option ℕ} (amount : ℤ) (ss : List ℕ) where
  pub by_none : o ≡ none → charge_by o amount ss ≡ refused 23
  unfolding charge_by
  by_none e = rw e

  module _ (k : ℕ) (e : o ≡ some k) where
    pub by_above : 10000 < k → charge_by o amount ss ≡ refused 23
    unfolding charge_by
    by_above h = rw (e, ltb_true 10000 k h)

    pub by_shares : k ≤ 10000 → are_shares ss ≡ false → charge_by o amount ss ≡ refused 23
    unfolding charge_by
    by_shares h s = rw (e, ltb_false 10000 k h, s)

    pub by_all : k ≤ 10000 → are_shares ss ≡ true →
        charge_by o amount ss ≡ accepted (record { fee = fee amount k; parts = parts amount (net_of amount k) ss })
    unfolding charge_by
    by_all h s = rw (e, ltb_false 10000 k h, s)

pub parts_long : (amount net : ℤ) (ss : List ℕ) → length (parts amount net ss) ≡ length ss
unfolding parts
parts_long amount net ss = length_listed (part amount net ss) (length ss)

-- the net amount
module _ (amount : ℤ) (k : ℕ) (r : InRange amount k) where
  net_small : nat_abs (net_of amount k) ≤ 1000000000000
  net_small = rw (net_is amount k r.factor, sign_size) (omega (arith, r.size))

  pub net_splits : (ss : List ℕ) → are_shares ss ≡ true → Splits (net_of amount k) ss
  net_splits ss h = record { size = net_small; few = (shared ss h).few; whole = (shared ss h).whole }

  module _ {x f : ℤ} (p : x ≡ amount) (q : f ≡ fee amount k) where
    less_fee : x -ℤ kept f ≡ net_of amount k
    less_fee = ap (λ (z : ℤ). z -ℤ kept f) p ∙ ap (λ (z : ℤ). amount -ℤ z) (fee_kept amount k r q)

    pub net_fits : SFits w64 (x -ℤ kept f)
    net_fits = rw less_fee (fits_size (net_of amount k) (omega (arith, net_small)))

    pub net_kept : kept (x -ℤ kept f) ≡ net_of amount k
    net_kept = kept_as less_fee (fits_size (net_of amount k) (omega (arith, net_small)))

-- BY THE AMOUNT

module _ (term table : List ℕ) (amount : ℤ) (ss : List ℕ) where
  pub outside : 1000000000000 < nat_abs amount → charge term table amount ss ≡ refused 22
  unfolding charge
  outside h = rw (ltb_true 1000000000000 (nat_abs amount) h)

  pub inside : nat_abs amount ≤ 1000000000000 → charge term table amount ss ≡ charge_by (root_rate term table) amount ss
  unfolding charge
  inside h = rw (ltb_false 1000000000000 (nat_abs amount) h)
