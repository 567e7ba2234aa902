-- The queue is in the order of how long its units have been idle, so that the first has been idle longest, whatever the grant rule. Assumes nothing.
use mathlib.Core.Bool.{Bool, true, false}
use mathlib.Core.List.{List, [], ◌∷◌, ◌++◌}
use mathlib.Core.Logic.{inl, inr}
use mathlib.Core.Option.{none, some, none-ne-some, some-injective}
use mathlib.Core.Path.{◌≡◌, refl, sym, ap, subst}
use Prim.Native.Nat.{ℕ, zero, suc, ◌-◌, ◌<◌, ◌≤◌}
use native.Mathlib.Omega.{arith}
use lib.ListN.{get_elem?}
use Rattle.paper.specs.Book.{Term, Book}
use Rattle.paper.specs.Machine.{UnitState, unit, still_idle, State, Outcome, going, ended, Limits, Grant, longest, entry_by, numbers_from, start}
use Rattle.paper.specs.Run.{on, moments_from_by, moments_by}
use Rattle.paper.specs.Sound.{In, All}
use Rattle.paper.specs.Idle.{IsIdle, times, once_if_idle, Queued, idle_for, Before, PicksLongest, WithPast}
use Rattle.paper.proofs.Idle.{idle_counted, counted_idle}
use Rattle.paper.proofs.Lists.{all_in}
use Rattle.paper.proofs.Numbers.{same_is, other_is}
use Rattle.paper.proofs.Queue.{times_cons, Moved, stays, leaves, joins, MovedAfter, entry_moved, moved_queued, start_queued}
use Rattle.paper.proofs.Stack.{asleep_at}
use Rattle.paper.proofs.Tests.{eqb_cases}

abbrev Ordered : List State → List ℕ → Type 0
Ordered past [] = Unit {0}
Ordered past (v ∷ q) = All (Before past v) q × Ordered past q

abbrev Idle : State → ℕ → Type 0
Idle s v = (unit s.units v).busy ≡ false

grown : (s : State) (past : List State) (v : ℕ) → Idle s v → idle_for v (s ∷ past) ≡ suc (idle_for v past)
unfolding idle_for
grown s past v e = rw (e, idle_for)

begun : (s : State) (past : List State) (v : ℕ) → (unit s.units v).busy ≡ true → idle_for v (s ∷ past) ≡ 0
unfolding idle_for
begun s past v e = rw (e, idle_for)

-- ONE STATE MORE

-- while all are idle, the order is kept
module _ (s : State) (past : List State) where
  before_kept : (v w : ℕ) → Idle s v → Idle s w → Before past v w → Before (s ∷ past) v w
  before_kept v w i k (inl h) = inl (omega (arith, grown s past v i, grown s past w k))
  before_kept v w i k (inr h) = inr (omega (arith, grown s past v i, grown s past w k, h.0), h.1)

  ordered_kept : (q : List ℕ) → All (Idle s) q → Ordered past q → Ordered (s ∷ past) q
  ordered_kept [] is o = tt
  ordered_kept (v ∷ q) is o = (others q is.1 o.0, ordered_kept q is.1 o.1)
    where
      others : (q : List ℕ) → All (Idle s) q → All (Before past v) q → All (Before (s ∷ past) v) q
      others [] js bs = tt
      others (w ∷ q) js bs = (before_kept v w is.0 js.0 bs.0, others q js.1 bs.1)

-- and where some leave
module _ (xs : List UnitState) where
  all_still : (P : ℕ → Type 0) (q : List ℕ) → All P q → All P (still_idle xs q)
  unfolding still_idle
  all_still P [] a = tt
  all_still P (v ∷ q) a = go (unit xs v).busy (all_still P q a.1)
    where
      go : (b : Bool) → All P (still_idle xs q) → All P (elim b as (λ z. List ℕ) [ true ↦ still_idle xs q | false ↦ v ∷ still_idle xs q ])
      go true r = r
      go false r = (a.0, r)

  ordered_still : (past : List State) (q : List ℕ) → Ordered past q → Ordered past (still_idle xs q)
  unfolding still_idle
  ordered_still past [] o = tt
  ordered_still past (v ∷ q) o = go (unit xs v).busy (ordered_still past q o.1)
    where
      go : (b : Bool) → Ordered past (still_idle xs q) → Ordered past (elim b as (λ z. List ℕ) [ true ↦ still_idle xs q | false ↦ v ∷ still_idle xs q ])
      go true r = r
      go false r = (all_still (Before past v) q o.0, r)

-- and where one joins, which has not been idle as long as any
ordered_last : (past : List State) (q : List ℕ) (u : ℕ) → Ordered past q → All (λ (v : ℕ). idle_for u past < idle_for v past) q → Ordered past (q ++ (u ∷ []))
ordered_last past [] u o a = (tt, tt)
ordered_last past (v ∷ q) u o a = (others q o.0, ordered_last past q u o.1 a.1)
  where
    others : (q : List ℕ) → All (Before past v) q → All (Before past v) (q ++ (u ∷ []))
    others [] bs = (inl a.0, tt)
    others (w ∷ q) bs = (bs.0, others q bs.1)

-- who stands in a queue that is right is idle
all_idle : (s : State) (q : List ℕ) → ((v : ℕ) → times v q ≤ once_if_idle v s.units) → All (Idle s) q
all_idle s [] h = tt
all_idle s (w ∷ q) h = (
  (counted_idle w s.units (omega (arith, h w, times_cons w w q, same_is w w 1 refl))).1,
  all_idle s q (λ v. omega (arith, h v, times_cons v w q)),
)

moved_ordered : (s s' : State) (before : List State) → Queued s → Moved s s' → Ordered (s ∷ before) s.queue → Ordered (s' ∷ s ∷ before) s'.queue
moved_ordered s s' before qd (stays h e) o =
    subst (Ordered (s' ∷ s ∷ before)) (sym e)
    (ordered_kept s' (s ∷ before) s.queue (all_idle s' s.queue (λ v. omega (arith, qd v, h v))) o)
moved_ordered s s' before qd (leaves h e) o =
    let is = all_idle s' s'.queue (λ v. omega (arith, moved_queued s s' (leaves h e) qd v)) in
    ordered_kept s' (s ∷ before) s'.queue is (rw e (ordered_still s'.units (s ∷ before) s.queue o))
moved_ordered s s' before qd (joins u b h e) o =
    let is = all_idle s' s.queue (λ v. omega (arith, qd v, h v)) in
    subst (Ordered (s' ∷ s ∷ before)) (sym e)
    (ordered_last (s' ∷ s ∷ before) s.queue u (ordered_kept s' (s ∷ before) s.queue is o)
    (longer s.queue is (all_idle s s.queue (λ v. omega (arith, qd v)))))
  where
    newly : idle_for u (s' ∷ s ∷ before) ≡ 1
    newly =
        omega (arith, begun s before u b, grown s' (s ∷ before) u (counted_idle u s'.units (omega (arith, h u, same_is u u 1 refl))).1)

    longer : (q : List ℕ) → All (Idle s') q → All (Idle s) q → All (λ (v : ℕ). idle_for u (s' ∷ s ∷ before) < idle_for v (s' ∷ s ∷ before)) q
    longer [] is js = tt
    longer (v ∷ q) is js =
        (omega (arith, newly, grown s' (s ∷ before) v is.0, grown s before v js.0), longer q is.1 js.1)

-- THE START
numbers_ordered : (units : ℕ) (t : Term) (k n : ℕ) → 0 < k → Ordered (start units t ∷ []) (numbers_from k n)
unfolding numbers_from idle_for start
numbers_ordered units t k zero h = tt
numbers_ordered units t k (suc n) h = (others (suc k) n (omega arith), numbers_ordered units t (suc k) n (omega arith))
  where
    alike : (v : ℕ) → 0 < v → idle_for v (start units t ∷ []) ≡ 1
    alike zero h = absurd (omega arith)
    alike (suc v) h = grown (start units t) [] (suc v) (ap (λ (x : UnitState). x.busy) (asleep_at (units - 1) v))

    others : (m n : ℕ) → k < m → All (Before (start units t ∷ []) k) (numbers_from m n)
    others m zero l = tt
    others m (suc n) l = (inr (omega (arith, alike k h, alike m (omega arith)), omega arith), others (suc m) n (omega arith))

-- EVERY STATE OF EVERY RUN
times_in : (v : ℕ) (q : List ℕ) → 1 ≤ times v q → In v q
unfolding times
times_in v [] h = absurd (omega arith)
times_in v (w ∷ q) h = elim (eqb_cases v w) [ inl p ↦ inl p.1 | inr p ↦ inr (times_in v q (omega (arith, times_cons v w q, other_is v w 1 p.1))) ]

picks : (s : State) (before : List State) → Queued s → Ordered (s ∷ before) s.queue → PicksLongest s before
unfolding longest
picks s before qd o = record {
  finds = λ e v i. none_there s.queue v e (there v i);
  first = λ v w e i. at_head s.queue v w e (there w i) o;
}
  where
    there : (v : ℕ) → IsIdle s v → In v s.queue
    there v i = times_in v s.queue (omega (arith, qd v, idle_counted v s.units i.0 i.1))

    none_there : (q : List ℕ) (v : ℕ) → get_elem? q 0 ≡ none → In v q → ⊥
    none_there [] v e m = m
    none_there (w ∷ q) v e m = none-ne-some _ (sym e)

    at_head : (q : List ℕ) (v w : ℕ) → get_elem? q 0 ≡ some v → In w q → Ordered (s ∷ before) q → Before (s ∷ before) v w
    at_head [] v w e m o = absurd m
    at_head (x ∷ q) v w e m o = subst (λ (z : ℕ). Before (s ∷ before) z w) (some-injective _ _ e) (go m)
      where
        go : In w (x ∷ q) → Before (s ∷ before) x w
        go (inl p) = inr (ap (λ (z : ℕ). idle_for z (s ∷ before)) p, omega arith)
        go (inr n) = all_in (Before (s ∷ before) x) w q o.0 n

module _ (G : Grant) (B : Book) (L : Limits) where
  picks_from : (us : List ℕ) (s : State) (before : List State) → Queued s → Ordered (s ∷ before) s.queue →
      WithPast PicksLongest s before (moments_from_by G B L us s)
  unfolding moments_from_by
  picks_from [] s before qd o = picks s before qd o
  picks_from (u ∷ us) s before qd o = go (entry_by G B L u s) (entry_moved G B L u s) (λ s'. picks_from us s' (s ∷ before))
    where
      go : (x : Outcome) → MovedAfter s x →
          ((s' : State) → Queued s' → Ordered (s' ∷ s ∷ before) s'.queue → WithPast PicksLongest s' (s ∷ before) (moments_from_by G B L us s')) →
          WithPast PicksLongest s before (on (moments_from_by G B L us) x)
      go (going ev s') m k = unfold on in (picks s before qd o, k s' (moved_queued s s' m qd) (moved_ordered s s' before qd m o))
      go (ended e s') m k = unfold on in picks s before qd o

  pub picks_longest : (units : ℕ) (schedule : List ℕ) (t : Term) → WithPast PicksLongest (start units t) [] (moments_by G B L units schedule t)
  unfolding moments_by
  picks_longest units schedule t =
      picks_from schedule (start units t) [] (start_queued units t) (unfold start in numbers_ordered units t 1 (units - 1) (omega arith))
