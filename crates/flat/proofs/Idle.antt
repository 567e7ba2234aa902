-- The unit that a FORK finds is one of the units, and the first of the queue; a unit that leaves the queue keeps its stack. Assumes nothing.
use mathlib.Core.List.{List, [], ◌∷◌}
use mathlib.Core.Logic.{inl, inr, ◌≢◌}
use mathlib.Core.Option.{some, none-ne-some, some-injective}
use mathlib.Core.Path.{◌≡◌, refl, ◌∙◌, ap}
use Prim.Native.Nat.{ℕ, zero, suc, ◌+◌, ◌<◌}
use native.Mathlib.Omega.{arith}
use lib.ListN.{length}
use Rattle.paper.proofs.Tests.{eqb_cases}
use Rattle.flat.specs.Machine.{FlatUnit, unit, first_from, first_idle, leave}

first_from_is : (k v : ℕ) (us : List FlatUnit) → first_from k us ≡ some v → (i : ℕ) × (v ≡ k + i) × (i < length us) × ((unit us i).rank ≡ 1)
unfolding first_from
first_from_is k v [] e = absurd (none-ne-some _ e)
first_from_is k v (x ∷ us) e =
    elim (eqb_cases x.rank 1) [
      | inl p ↦ (let z = some-injective _ _ (rw (p.0, first_from) at e) in (0, omega (arith, z), omega arith, p.1))
      | inr p ↦ (let (i, a, l, c) = first_from_is (suc k) v us (rw (p.0, first_from) at e) in (suc i, omega (arith, a), omega (arith, l), c))
    ]

pub idle_is : (us : List FlatUnit) (v : ℕ) → first_idle us ≡ some v → (v < length us) × ((unit us v).rank ≡ 1)
unfolding first_idle
idle_is us v e =
    let (i, p, q, c) = first_from_is 0 v us e in
    let z : v ≡ i = omega arith in
    (omega arith, ap (λ (y : ℕ). (unit us y).rank) z ∙ c)

-- so it is not the one that forks
pub idle_other : (us : List FlatUnit) (u v : ℕ) → first_idle us ≡ some v → (unit us u).rank ≡ 0 → v ≢ u
idle_other us u v e b d = let a = ap (λ (y : ℕ). (unit us y).rank) d in omega (arith, a, b, (idle_is us v e).1)

pub leave_stack : (r : ℕ) (us : List FlatUnit) (v : ℕ) → (unit (leave r us) v).stack ≡ (unit us v).stack
leave_stack r [] v = refl
leave_stack r (x ∷ us) zero = refl
leave_stack r (x ∷ us) (suc v) = leave_stack r us v
