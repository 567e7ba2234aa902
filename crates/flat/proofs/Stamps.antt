-- When a part was placed, by the order of placing: the part of unit v that has k parts of v placed before it. The first part of all has number 1. Assumes nothing.
use mathlib.Core.Bool.{true, false}
use mathlib.Core.List.{List, [], ◌∷◌, ◌++◌}
use mathlib.Core.Logic.{inl, inr}
use mathlib.Core.Path.{◌≡◌, refl, sym, ◌∙◌, ap}
use Prim.Native.Nat.{ℕ, suc, ◌+◌, ◌<◌, ◌≤◌}
use native.Mathlib.Omega.{arith}
use lib.Dec.{eqb}
use lib.ListN.{length}
use Rattle.paper.specs.Idle.{times}
use Rattle.paper.proofs.Queue.{times_cons}
use Rattle.paper.proofs.Tests.{eqb_cases, eqb_true, eqb_false}
use Rattle.flat.proofs.Ranks.{times_here, times_past}

unfoldable pub stamp : ℕ → ℕ → List ℕ → ℕ
unfolding times
stamp v k [] = 0
stamp v k (u ∷ vs) = elim (eqb v u) [ true ↦ elim (eqb k (times v vs)) [ true ↦ suc (length vs) | false ↦ stamp v k vs ] | false ↦ stamp v k vs ]

stamp_here : (v k : ℕ) (vs : List ℕ) → k ≡ times v vs → stamp v k (v ∷ vs) ≡ suc (length vs)
unfolding stamp
stamp_here v k vs e = rw (eqb_true v v refl, eqb_true k (times v vs) e, stamp)

stamp_past : (v k u : ℕ) (vs : List ℕ) → (v ≡ u → k ≡ times v vs → ⊥) → stamp v k (u ∷ vs) ≡ stamp v k vs
unfolding stamp
stamp_past v k u vs h =
    elim (eqb_cases v u) [
      | inl p ↦ rw (p.0, eqb_false k (times v vs) (h p.1), stamp) refl
      | inr p ↦ rw (p.0, stamp) refl
    ]

pub times_append : (v : ℕ) (xs ys : List ℕ) → times v (xs ++ ys) ≡ times v xs + times v ys
unfolding times
times_append v [] ys = omega arith
times_append v (x ∷ xs) ys = omega (arith, times_cons v x (xs ++ ys), times_cons v x xs, times_append v xs ys)

-- a number lower than that of the parts of v behind is found behind
stamp_behind : (v k : ℕ) (xs vs : List ℕ) → k < times v vs → stamp v k (xs ++ vs) ≡ stamp v k vs
stamp_behind v k [] vs l = refl
stamp_behind v k (x ∷ xs) vs l =
    stamp_past v k x (xs ++ vs) (λ e f. omega (arith, f, l, times_append v xs vs)) ∙ stamp_behind v k xs vs l

pub stamp_is : (v k : ℕ) (later before : List ℕ) → times v before ≡ k → stamp v k (later ++ (v ∷ before)) ≡ suc (length before)
stamp_is v k later before e =
    stamp_behind v k later (v ∷ before) (omega (arith, e, times_here v v before refl)) ∙ stamp_here v k before (sym e)

stamp_most : (v k : ℕ) (vs : List ℕ) → stamp v k vs ≤ length vs
unfolding stamp
stamp_most v k [] = omega arith
stamp_most v k (u ∷ vs) =
    elim (eqb_cases v u) [
      | inl p ↦
          elim (eqb_cases k (times v vs)) [
            | inl q ↦ rw (p.0, q.0, stamp) (omega arith)
            | inr q ↦ rw (p.0, q.0, stamp) (omega (arith, stamp_most v k vs))
          ]
      | inr p ↦ rw (p.0, stamp) (omega (arith, stamp_most v k vs))
    ]

-- the part of w with fewer parts of w before it than were placed before a part was placed before that part
pub stamp_before : (w k : ℕ) (later before : List ℕ) → k < times w before → stamp w k (later ++ before) ≤ length before
stamp_before w k later before l = omega (arith, stamp_behind w k later before l, stamp_most w k before)

-- each part of v is in the order
pub split_at : (v k : ℕ) (vs : List ℕ) → k < times v vs → (later : List ℕ) × (before : List ℕ) × (vs ≡ later ++ (v ∷ before)) × (times v before ≡ k)
unfolding times
split_at v k [] l = absurd (omega (arith, l))
split_at v k (u ∷ vs) l =
    elim (eqb_cases v u) [
      | inl p ↦
          elim (eqb_cases k (times v vs)) [
            | inl q ↦ ([], vs, ap (λ (z : ℕ). z ∷ vs) (sym p.1), sym q.1)
            | inr q ↦
                (let (later, before, e, f) = split_at v k vs (let a = q.1 in omega (arith, a, l, times_here v u vs p.1)) in
                (u ∷ later, before, ap (λ (z : List ℕ). u ∷ z) e, f))
          ]
      | inr p ↦
          (let (later, before, e, f) = split_at v k vs (omega (arith, l, times_past v u vs p.1)) in
          (u ∷ later, before, ap (λ (z : List ℕ). u ∷ z) e, f))
    ]
