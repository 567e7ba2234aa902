-- Laws of keys against the present term: one key more, and the key at a depth. Assumes nothing.
use mathlib.Core.List.{List, [], ◌∷◌, ◌++◌}
use mathlib.Core.Logic.{inl, inr}
use mathlib.Core.Path.{◌≡◌, refl}
use Prim.Native.Nat.{ℕ, zero, suc, ◌+◌, ◌*◌, ◌≤◌, ◌<◌}
use native.Mathlib.Omega.{arith}
use lib.ListN.{length, get_or, take}
use borrow.Author.Tests.{ne_eqb}
use Rattle.paper.proofs.Tests.{eqb_cases}
use Rattle.net.specs.Net.{part}
use Rattle.lookup.specs.Walk.{wide, width, size_in, takes, behind, Bears, Agree}

-- WIDTHS

pub wide_part : wide part ≡ 5
unfolding wide
wide_part = refl

pub wide_operator : (k : ℕ) → (k ≡ part → ⊥) → wide k ≡ 9
unfolding wide
wide_operator k n = rw (ne_eqb k part n)

wide_most : (k : ℕ) → wide k ≤ 9
unfolding wide
wide_most k = elim (eqb_cases k part) [ inl p ↦ rw p.0 (omega arith) | inr p ↦ rw p.0 (omega arith) ]

pub width_most : (ks : List ℕ) → width ks ≤ 9 * length ks
unfolding width
width_most [] = omega arith
width_most (k ∷ ks) = omega (arith, wide_most k, width_most ks)

pub width_more : (ks : List ℕ) (k : ℕ) → width (ks ++ (k ∷ [])) ≡ width ks + wide k
unfolding width
width_more [] k = omega arith
width_more (j ∷ ks) k = omega (arith, width_more ks k)

-- OFFSETS

module _ (symbols : List ℕ) where
  pub takes_part : (q : ℕ) → takes symbols part q ≡ size_in symbols q
  unfolding takes
  takes_part q = refl

  pub takes_operator : (k q : ℕ) → (k ≡ part → ⊥) → takes symbols k q ≡ 1
  unfolding takes
  takes_operator k q n = rw (ne_eqb k part n)

  pub behind_more : (ks : List ℕ) (k q : ℕ) → behind symbols (ks ++ (k ∷ [])) q ≡ behind symbols ks q + takes symbols k (behind symbols ks q)
  unfolding behind
  behind_more [] k q = refl
  behind_more (j ∷ ks) k q = behind_more ks k (q + takes symbols j q)

  pub behind_least : (ks : List ℕ) (q : ℕ) → q ≤ behind symbols ks q
  unfolding behind
  behind_least [] q = omega arith
  behind_least (k ∷ ks) q = omega (arith, behind_least ks (q + takes symbols k q))

  module _ (e : ℕ) where
    pub agree_more : (ks : List ℕ) (k q : ℕ) → Agree symbols e ks q → behind symbols ks q < e → Bears symbols k (behind symbols ks q) →
        Agree symbols e (ks ++ (k ∷ [])) q
    unfolding behind
    agree_more [] k q a l b = (l, b, tt)
    agree_more (j ∷ ks) k q a l b = (a.0, a.1, agree_more ks k (q + takes symbols j q) a.2 l b)

    -- the key at a depth
    pub agree_at : (ks : List ℕ) (d q : ℕ) → d < length ks → Agree symbols e ks q →
        (behind symbols (take d ks) q < e) × Bears symbols (get_or ks d 0) (behind symbols (take d ks) q)
    unfolding behind
    agree_at [] d q l a = absurd (omega arith)
    agree_at (j ∷ ks) zero q l a = (a.0, a.1)
    agree_at (j ∷ ks) (suc d) q l a = agree_at ks d (q + takes symbols j q) (omega arith) a.2

    -- where no part that begins before e ends behind it, keys that agree do not go behind e
    pub behind_most : (a : ℕ) → ((q : ℕ) → a ≤ q → q < e → q + size_in symbols q ≤ e) → (ks : List ℕ) (q : ℕ) → a ≤ q → q ≤ e → Agree symbols e ks q →
        behind symbols ks q ≤ e
    unfolding behind
    behind_most a closed [] q l h g = h
    behind_most a closed (k ∷ ks) q l h g =
        let m : q + takes symbols k q ≤ e =
        elim (eqb_cases k part) [
          | inl p ↦ rw (p.1, takes_part q) (closed q l g.0)
          | inr p ↦ rw (takes_operator k q p.1) (let i = g.0 in omega arith)
        ] in
        behind_most a closed ks (q + takes symbols k q) (omega arith) m g.2
