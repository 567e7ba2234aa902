-- Grant rules that answer idle units only. Assumes nothing.
use mathlib.Core.Bool.{Bool, true, false}
use mathlib.Core.List.{List, [], ◌∷◌}
use mathlib.Core.Option.{Option, some, none-ne-some, some-injective}
use mathlib.Core.Path.{◌≡◌, refl, sym, ◌∙◌, ap}
use Prim.Native.Nat.{ℕ, zero, suc, ◌+◌, ◌<◌, ◌≤◌}
use native.Mathlib.Omega.{arith}
use lib.ListN.{length, get_elem?}
use Rattle.paper.specs.Machine.{UnitState, unit, idle_from, lowest, longest}
use Rattle.paper.specs.Idle.{times, once_if_idle, OnlyIdle}
use Rattle.paper.proofs.Numbers.{same_is}
use Rattle.paper.proofs.Queue.{times_cons}

idle_from_is : (k v : ℕ) (xs : List UnitState) → idle_from k xs ≡ some v → (i : ℕ) × (v ≡ k + i) × (i < length xs) × ((unit xs i).busy ≡ false)
unfolding idle_from
idle_from_is k v [] e = absurd (none-ne-some _ e)
idle_from_is k v (x ∷ xs) e = go x.busy refl e (idle_from_is (suc k) v xs)
  where
    go : (z : Bool) → x.busy ≡ z → elim z as (λ y. Option ℕ) [ true ↦ idle_from (suc k) xs | false ↦ some k ] ≡ some v →
        (idle_from (suc k) xs ≡ some v → (i : ℕ) × (v ≡ suc k + i) × (i < length xs) × ((unit xs i).busy ≡ false)) →
        (i : ℕ) × (v ≡ k + i) × (i < suc (length xs)) × ((unit (x ∷ xs) i).busy ≡ false)
    go true b e r = let (i, p, q, c) = r e in (suc i, omega arith, omega arith, c)
    go false b e r = let z = some-injective _ _ e in (0, omega arith, omega arith, b)

-- the lowest-numbered idle unit is a unit, and idle
pub lowest_idle : OnlyIdle lowest
unfolding lowest
lowest_idle s qd v e =
    let (i, p, q, c) = idle_from_is 0 v s.units e in
    let z : v ≡ i = omega arith in
    (omega arith, ap (λ (y : ℕ). (unit s.units y).busy) z ∙ c)

-- a unit that is idle, and no other number, is counted once
pub idle_counted : (v : ℕ) (xs : List UnitState) → v < length xs → (unit xs v).busy ≡ false → once_if_idle v xs ≡ 1
unfolding once_if_idle
idle_counted v [] h e = absurd (omega arith)
idle_counted zero (x ∷ xs) h e = rw e
idle_counted (suc v) (x ∷ xs) h e = idle_counted v xs (omega arith) e

pub counted_idle : (v : ℕ) (xs : List UnitState) → 1 ≤ once_if_idle v xs → (v < length xs) × ((unit xs v).busy ≡ false)
unfolding once_if_idle
counted_idle v [] h = absurd (omega arith)
counted_idle zero (x ∷ xs) h = (omega arith, go x.busy h)
  where
    go : (b : Bool) → 1 ≤ elim b as (λ z. ℕ) [ true ↦ 0 | false ↦ 1 ] → b ≡ false
    go true h = absurd (omega arith)
    go false h = refl
counted_idle (suc v) (x ∷ xs) h = let (p, e) = counted_idle v xs h in (omega arith, e)

at_place : (v : ℕ) (q : List ℕ) (i : ℕ) → get_elem? q i ≡ some v → 1 ≤ times v q
at_place v [] i e = absurd (none-ne-some _ e)
at_place v (w ∷ q) zero e = omega (arith, times_cons v w q, same_is v w 1 (sym (some-injective _ _ e)))
at_place v (w ∷ q) (suc i) e = omega (arith, times_cons v w q, at_place v q i e)

-- the first in the queue is a unit, and idle
pub longest_idle : OnlyIdle longest
unfolding longest
longest_idle s qd v e = counted_idle v s.units (omega (arith, qd v, at_place v s.queue _ e))
