-- Ranks that are 1 up to how many units are idle, each once, are the places of a queue: its first is the unit of rank 1, and so on. Assumes nothing.
use mathlib.Core.Bool.{true, false}
use mathlib.Core.List.{List, [], ◌∷◌, map}
use mathlib.Core.Logic.{inl, inr, ◌≢◌}
use mathlib.Core.Path.{◌≡◌, refl, sym, ◌∙◌, ap}
use Prim.Native.Nat.{ℕ, zero, suc, ◌+◌, ◌<◌, ◌≤◌}
use native.Mathlib.Omega.{arith}
use lib.Dec.{eqb}
use lib.ListN.{length}
use Rattle.paper.specs.Book.{Term, Book}
use Rattle.paper.specs.Machine.{numbers_from}
use Rattle.paper.specs.Idle.{times, once_if_idle}
use Rattle.paper.proofs.Tests.{eqb_cases, eqb_true, eqb_false, ltb_cases}
use Rattle.flat.specs.Machine.{FlatUnit, unit, idle_count}
use Rattle.flat.specs.Rules.{of_rank}
use Rattle.flat.specs.Relation.{PlacedUnit, at, busy, place, Ranked, unit_of, unit_state_of}
use Rattle.flat.proofs.Ranks.{times_here, times_past, behind_some, place_here, place_past, place_none}
use Rattle.flat.proofs.Stacks.{map_length, unit_at}

-- THE UNIT OF A RANK

unfoldable holder : ℕ → List FlatUnit → ℕ
holder r [] = 0
holder r (x ∷ xs) = elim (eqb x.rank r) [ true ↦ 0 | false ↦ suc (holder r xs) ]

rank_here : (r : ℕ) (x : FlatUnit) (xs : List FlatUnit) → x.rank ≡ r → (of_rank r (x ∷ xs) ≡ suc (of_rank r xs)) × (holder r (x ∷ xs) ≡ 0)
unfolding of_rank holder
rank_here r x xs e = (rw (eqb_true x.rank r e, of_rank) refl, rw (eqb_true x.rank r e, holder) refl)

rank_past : (r : ℕ) (x : FlatUnit) (xs : List FlatUnit) → x.rank ≢ r → (of_rank r (x ∷ xs) ≡ of_rank r xs) × (holder r (x ∷ xs) ≡ suc (holder r xs))
unfolding of_rank holder
rank_past r x xs e = (rw (eqb_false x.rank r e, of_rank) refl, rw (eqb_false x.rank r e, holder) refl)

of_none : (r : ℕ) → of_rank r [] ≡ 0
unfolding of_rank
of_none r = refl

rank_counts : (r v : ℕ) (us : List FlatUnit) → v < length us → (unit us v).rank ≡ r → 1 ≤ of_rank r us
rank_counts r v [] l e = absurd (omega (arith, l))
rank_counts r zero (x ∷ us) l e = omega (arith, (rank_here r x us e).0)
rank_counts r (suc v) (x ∷ us) l e =
    let a = rank_counts r v us (omega (arith, l)) e in
    elim (eqb_cases x.rank r) [
      | inl p ↦ omega (arith, (rank_here r x us p.1).0)
      | inr p ↦ omega (arith, a, (rank_past r x us p.1).0)
    ]

holder_is : (r v : ℕ) (us : List FlatUnit) → v < length us → (unit us v).rank ≡ r → of_rank r us ≤ 1 → holder r us ≡ v
holder_is r v [] l e o = absurd (omega (arith, l))
holder_is r zero (x ∷ us) l e o = (rank_here r x us e).1
holder_is r (suc v) (x ∷ us) l e o =
    elim (eqb_cases x.rank r) [
      | inl p ↦ absurd (omega (arith, o, (rank_here r x us p.1).0, rank_counts r v us (omega (arith, l)) e))
      | inr p ↦ (rank_past r x us p.1).1 ∙ ap suc (holder_is r v us (omega (arith, l)) e (omega (arith, o, (rank_past r x us p.1).0)))
    ]

holder_rank : (r : ℕ) (us : List FlatUnit) → 1 ≤ of_rank r us → (holder r us < length us) × ((unit us (holder r us)).rank ≡ r)
holder_rank r [] l = absurd (omega (arith, l, of_none r))
holder_rank r (x ∷ us) l =
    elim (eqb_cases x.rank r) [
      | inl p ↦
          (let a = (rank_here r x us p.1).1 in
          (omega (arith, a), ap (λ (v : ℕ). (unit (x ∷ us) v).rank) a ∙ p.1))
      | inr p ↦
          (let a = rank_past r x us p.1 in
          let h = holder_rank r us (omega (arith, l, a.0)) in
          (omega (arith, a.1, h.0), ap (λ (v : ℕ). (unit (x ∷ us) v).rank) a.1 ∙ h.1))
    ]

-- THE QUEUE

-- the units of m ranks from k up
abbrev holders : List FlatUnit → ℕ → ℕ → List ℕ
holders us k m = map (λ r. holder r us) (numbers_from k m)

module _ (us : List FlatUnit) where
  abbrev Each : ℕ → ℕ → Type 0
  Each k m = (r : ℕ) → k ≤ r → r < k + m → of_rank r us ≡ 1

  each_next : (k m : ℕ) → Each k (suc m) → Each (suc k) m
  each_next k m h r a b = h r (omega (arith, a)) (omega (arith, b))

  -- a rank outside stands there not at all
  outside : (v k m : ℕ) → Each k m → (v < length us → (r : ℕ) → k ≤ r → r < k + m → (unit us v).rank ≢ r) → times v (holders us k m) ≡ 0
  unfolding numbers_from times
  outside v k zero h o = refl
  outside v k (suc m) h o =
      let g = holder_rank k us (omega (arith, h k (omega arith) (omega arith))) in
      let ne : v ≢ holder k us =
      (λ e. o (omega (arith, e, g.0)) k (omega arith) (omega arith) (ap (λ (z : ℕ). (unit us z).rank) e ∙ g.1)) in
      times_past v (holder k us) (holders us (suc k) m) ne ∙ outside v (suc k) m (each_next k m h) (λ l r a b. o l r (omega (arith, a)) (omega (arith, b)))

  -- one inside stands there once, at its place
  inside : (v k m : ℕ) → Each k m → v < length us → k ≤ (unit us v).rank → (unit us v).rank < k + m →
      (times v (holders us k m) ≡ 1) × (place v (holders us k m) + k ≡ suc (unit us v).rank)
  unfolding numbers_from
  inside v k zero h l a b = absurd (omega (arith, a, b))
  inside v k (suc m) h l a b =
      elim (eqb_cases (unit us v).rank k) [
        | inl p ↦
            (let e : v ≡ holder k us = sym (holder_is k v us l p.1 (omega (arith, h k (omega arith) (omega arith)))) in
            let o = outside v (suc k) m (each_next k m h) (λ z r c d q. (let w = p.1 in omega (arith, c, q, w))) in (
              omega (arith, times_here v (holder k us) (holders us (suc k) m) e, o),
              omega (arith, place_here v (holder k us) (holders us (suc k) m) e, p.1),
            ))
        | inr p ↦
            (let g = holder_rank k us (omega (arith, h k (omega arith) (omega arith))) in
            let ne : v ≢ holder k us = (λ e. p.1 (ap (λ (z : ℕ). (unit us z).rank) e ∙ g.1)) in
            let i = inside v (suc k) m (each_next k m h) l (omega (arith, a, p.1)) (omega (arith, b)) in (
              omega (arith, times_past v (holder k us) (holders us (suc k) m) ne, i.0),
              omega (arith, place_past v (holder k us) (holders us (suc k) m) ne, behind_some (place v (holders us (suc k) m)) (omega (arith, i.1, a, p.1)), i.1),
            ))
      ]

  module _ (ranked : (v : ℕ) → v < length us → (unit us v).rank ≤ idle_count us) (once : (r : ℕ) → 1 ≤ r → r ≤ idle_count us → of_rank r us ≡ 1) where
    pub queue_of : List ℕ
    queue_of = holders us 1 (idle_count us)

    each : Each 1 (idle_count us)
    each r a b = once r a (omega (arith, b))

    rank_place : (v : ℕ) → v < length us → (unit us v).rank ≡ place v queue_of
    unfolding queue_of
    rank_place v l =
        elim (ltb_cases 0 (unit us v).rank) [
          | inl p ↦
              (let i = inside v 1 (idle_count us) each l (omega (arith, p.1)) (omega (arith, ranked v l)) in omega (arith, i.1))
          | inr p ↦
              (let z = p.1 in
              omega (arith, z, place_none v queue_of (outside v 1 (idle_count us) each (λ m r a b e. omega (arith, e, a, z)))))
        ]

    idle_times : (v : ℕ) → v < length us → 1 ≤ (unit us v).rank → times v queue_of ≡ 1
    unfolding queue_of
    idle_times v l a = (inside v 1 (idle_count us) each l a (omega (arith, ranked v l))).0

    busy_times : (v : ℕ) → (v < length us → (unit us v).rank ≡ 0) → times v queue_of ≡ 0
    unfolding queue_of
    busy_times v h = outside v 1 (idle_count us) each (λ l r a b e. (let z = h l in omega (arith, z, e, a)))

-- OF UNITS WITH POSITIONS

module _ (B : Book) where
  idle_once : (U : List PlacedUnit) (v : ℕ) → v < length U → 1 ≤ (at U v).rank → once_if_idle v (map (unit_state_of B) U) ≡ 1
  unfolding once_if_idle
  idle_once [] v l i = absurd (omega (arith, l))
  idle_once (x ∷ U) zero l i = go x.rank i
    where
      go : (r : ℕ) → 1 ≤ r → ◌≡◌ {A = ℕ} (elim (busy r) as (λ z. ℕ) [ true ↦ 0 | false ↦ 1 ]) 1
      go zero i = absurd (omega (arith, i))
      go (suc r) i = refl
  idle_once (x ∷ U) (suc v) l i = idle_once U v (omega (arith, l)) i

  busy_once : (U : List PlacedUnit) (v : ℕ) → (v < length U → (at U v).rank ≡ 0) → once_if_idle v (map (unit_state_of B) U) ≡ 0
  unfolding once_if_idle
  busy_once [] v h = refl
  busy_once (x ∷ U) zero h = ap (λ (r : ℕ). elim (busy r) as (λ z. ℕ) [ true ↦ 0 | false ↦ 1 ]) (h (omega arith))
  busy_once (x ∷ U) (suc v) h = busy_once U v (λ l. h (omega (arith, l)))

module _ (B : Book) (t : Term) (U : List PlacedUnit) (us : List FlatUnit) (e : us ≡ map (unit_of t) U)
    (ranked : (v : ℕ) → v < length us → (unit us v).rank ≤ idle_count us) (once : (r : ℕ) → 1 ≤ r → r ≤ idle_count us → of_rank r us ≡ 1) where
  rank_is : (v : ℕ) → (unit us v).rank ≡ (at U v).rank
  rank_is v = ap (λ (z : List FlatUnit). (unit z v).rank) e ∙ ap (λ (x : FlatUnit). x.rank) (unit_at t U v)

  many : length us ≡ length U
  many = ap length e ∙ map_length (unit_of t) U

  pub queue_ranked : Ranked U (queue_of us ranked once)
  queue_ranked v l = sym (rank_is v) ∙ rank_place us ranked once v (omega (arith, l, many))

  pub queue_right : (v : ℕ) → times v (queue_of us ranked once) ≡ once_if_idle v (map (unit_state_of B) U)
  queue_right v =
      elim (ltb_cases v (length U)) [
        | inl p ↦
            elim (ltb_cases 0 (at U v).rank) [
              | inl i ↦
                  (let l = p.1 in
                  let a = i.1 in
                  idle_times us ranked once v (omega (arith, l, many)) (omega (arith, a, rank_is v)) ∙ sym (idle_once B U v l (omega (arith, a))))
              | inr i ↦
                  (let a = i.1 in
                  busy_times us ranked once v (λ l. omega (arith, a, rank_is v)) ∙ sym (busy_once B U v (λ l. omega (arith, a))))
            ]
        | inr p ↦
            (let l = p.1 in
            busy_times us ranked once v (λ m. absurd (omega (arith, l, m, many))) ∙ sym (busy_once B U v (λ m. absurd (omega (arith, l, m)))))
      ]
