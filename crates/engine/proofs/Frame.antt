-- Laws of the run's frame: the number of its refusal, case by case, and that 0 is none. Assumes nothing.
use mathlib.Core.Bool.{Bool, true, false}
use mathlib.Core.List.{List}
use mathlib.Core.Logic.{◌⊎◌, inl, inr}
use mathlib.Core.Option.{none, some, some-ne-none}
use mathlib.Core.Path.{◌≡◌, refl, sym, ap, ◌∙◌}
use Prim.Native.Nat.{ℕ, zero, suc, ◌^◌, ◌≤◌, ◌<◌}
use native.Mathlib.Omega.{arith}
use lib.Dec.{eqb, ltb}
use borrow.Author.Tests.{lt-ltb, le-ltb, eq-eqb, ne_eqb, eqb-false, ltb-false}
use Rattle.paper.specs.Page.{Request, all_below, frame_fault}
use Rattle.whole.specs.declared.Limits.{Limits}
use Rattle.engine.specs.Spec.{published}
use Rattle.engine.specs.Promises.{fault_number, frame, fault, Asked}

module _ (units work net output : ℕ) where
  pub fault_none : units ≡ 0 → 13 ≡ fault units work net output
  unfolding frame_fault
  fault_none h = rw (eq-eqb units 0 h)

  pub fault_many : 8 < units → 13 ≡ fault units work net output
  unfolding frame_fault
  fault_many h = rw (ne_eqb units 0 (λ e. omega arith), lt-ltb 8 units h)

  module _ (some_units : 1 ≤ units) (few : units ≤ 8) where
    pub fault_work : work < published.work → 15 ≡ fault units work net output
    unfolding frame_fault
    fault_work h = rw (ne_eqb units 0 (λ e. omega arith), le-ltb 8 units few, lt-ltb work published.work h)

    pub fault_net : published.work ≤ work → net < published.net → 15 ≡ fault units work net output
    unfolding frame_fault
    fault_net h k = rw (ne_eqb units 0 (λ e. omega arith), le-ltb 8 units few, le-ltb work published.work h, lt-ltb net published.net k)

    module _ (work_long : published.work ≤ work) (net_long : published.net ≤ net) where
      pub fault_output : output < 1024 → 16 ≡ fault units work net output
      unfolding frame_fault
      fault_output h =
          rw (
            ne_eqb units 0 (λ e. omega arith),
            le-ltb 8 units few,
            le-ltb work published.work work_long,
            le-ltb net published.net net_long,
            lt-ltb output 1024 h,
          )

      pub faultless : 1024 ≤ output → 0 ≡ fault units work net output
      unfolding frame_fault
      faultless h =
          rw (
            ne_eqb units 0 (λ e. omega arith),
            le-ltb 8 units few,
            le-ltb work published.work work_long,
            le-ltb net published.net net_long,
            le-ltb output 1024 h,
          )

pub positive : (n : ℕ) → (n ≡ 0 → ⊥) → 1 ≤ n
positive zero h = absurd (h refl)
positive (suc n) h = omega arith

-- what a frame without fault has
pub record Frame (units work net output : ℕ) : Type 0 where
  pub some_units : 1 ≤ units
  pub few : units ≤ 8
  pub work_long : published.work ≤ work
  pub net_long : published.net ≤ net
  pub output_long : 1024 ≤ output

module _ (q : Request) where
  abbrev Fits : Type 0
  Fits = Frame q.units q.work q.net q.output

  -- there is no fault, or a refusal, whose number is not 0
  abbrev Outcome : Type 0
  Outcome = ((frame_fault published q ≡ none) × Fits) ⊎ ((k : ℕ) × (0 < k) × (frame_fault published q ≡ some k))

  outcome : Outcome
  unfolding frame_fault
  outcome =
      go (eqb q.units 0) refl (ltb 8 q.units) refl (ltb q.work published.work) refl (ltb q.net published.net) refl (ltb q.output 1024) refl
    where
      go : (a : Bool) → eqb q.units 0 ≡ a → (b : Bool) → ltb 8 q.units ≡ b → (c : Bool) → ltb q.work published.work ≡ c → (d : Bool) →
          ltb q.net published.net ≡ d → (o : Bool) → ltb q.output 1024 ≡ o → Outcome
      go true e b f c g d h o i = inr (13, omega arith, rw e)
      go false e true f c g d h o i = inr (13, omega arith, rw (e, f))
      go false e false f true g d h o i = inr (15, omega arith, rw (e, f, g))
      go false e false f false g true h o i = inr (15, omega arith, rw (e, f, g, h))
      go false e false f false g false h true i = inr (16, omega arith, rw (e, f, g, h, i))
      go false e false f false g false h false i = inl (
        rw (e, f, g, h, i),
        record {
          some_units = positive q.units (eqb-false q.units 0 e);
          few = ltb-false 8 q.units f;
          work_long = ltb-false q.work published.work g;
          net_long = ltb-false q.net published.net h;
          output_long = ltb-false q.output 1024 i;
        },
      )

  by_number : fault q.units q.work q.net q.output ≡ fault_number (frame_fault published q)
  unfolding frame_fault
  by_number = refl

  -- the number 0 says that there is none
  pub framed : fault q.units q.work q.net q.output ≡ 0 → frame_fault published q ≡ none
  framed e = elim outcome [
    | inl p ↦ p.0
    | inr p ↦ let k = p.1 in let h = ap fault_number p.2 in absurd (omega (arith, by_number))
  ]

  pub faulty : (k : ℕ) → k ≡ fault q.units q.work q.net q.output → (k ≡ 0 → ⊥) → frame_fault published q ≡ some k
  faulty k e n = elim outcome [
    | inl p ↦ absurd (n (e ∙ by_number ∙ ap fault_number p.0))
    | inr p ↦ p.2 ∙ ap some (sym (e ∙ by_number ∙ ap fault_number p.2))
  ]

-- so the numbers lie within their bounds
pub frame_of : {units work net output : ℕ} → fault units work net output ≡ 0 → Frame units work net output
frame_of {units} {work} {net} {output} e =
    let q : Request = frame units work net output in
    elim (outcome q) [
      | inl p ↦ p.1
      | inr p ↦ absurd (some-ne-none p.0 (sym p.2 ∙ framed q e))
    ]

-- and a run may be asked for, if each entry names a unit
pub asked : {l : Limits} {schedule : List ℕ} {work net output : ℕ} → Frame l.units work net output → all_below l.units schedule ≡ true →
    l.budget < 2 ^ 32 → Asked l schedule work
asked f names small = record { some_units = f.some_units; few = f.few; named = names; small = small; long = f.work_long }
