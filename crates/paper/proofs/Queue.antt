-- The idle queue: at the start and after every entry a unit is idle exactly if it stands in the queue, and it stands there once, whatever the grant rule.
-- Assumes nothing.
use mathlib.Core.Bool.{Bool, true, false, true≢false, false≢true}
use mathlib.Core.List.{List, [], ◌∷◌, ◌++◌, map}
use mathlib.Core.Logic.{inl, inr, ◌≢◌}
use mathlib.Core.Option.{Option, none, some}
use mathlib.Core.Path.{◌≡◌, refl, sym, ◌∙◌, ap}
use Prim.Native.Nat.{ℕ, zero, suc, ◌+◌, ◌-◌, ◌<◌}
use native.Mathlib.Omega.{arith}
use lib.Dec.{eqb, eqb-suc-suc}
use lib.ListN.{replicate}
use lib.ListN.{set as put}
use Rattle.paper.specs.Tree.{Position, size, subterm, replace}
use Rattle.paper.specs.Book.{Term, Book}
use Rattle.paper.specs.Match.{rewrite_over}
use Rattle.paper.specs.Marks.{Marked, cells}
use Rattle.paper.specs.Machine.{Order, fall, zero_in, arrive, UnitState, unit_state, asleep, unit, still_idle, State, Ending, Outcome, going, ended, Limits, exceeds, Grant, do_visit, do_fork, do_join, do_exit, do_rewrite, do_whole, carry_out_by, turn_by, entry_by, numbers_from, start}
use Rattle.paper.specs.Run.{Moment, on, moments_from_by, moments_by}
use Rattle.paper.specs.Sound.{All}
use Rattle.paper.specs.Demand3.{Throughout}
use Rattle.paper.specs.Idle.{times, once_if_idle, Queued}
use Rattle.paper.proofs.Numbers.{if_same, same_is, other_is, same_zero}
use Rattle.paper.proofs.Tests.{eqb_cases}

-- WHO STANDS IN A QUEUE

pub times_cons : (v w : ℕ) (q : List ℕ) → times v (w ∷ q) ≡ if_same v w 1 + times v q
unfolding times
times_cons v w q =
    elim (eqb_cases v w) [
      | inl p ↦ rw (p.0, times) (omega (arith, same_is v w 1 p.1))
      | inr p ↦ rw (p.0, times) (omega (arith, other_is v w 1 p.1))
    ]

pub times_append : (v : ℕ) (q r : List ℕ) → times v (q ++ r) ≡ times v q + times v r
unfolding times
times_append v [] r = omega arith
times_append v (w ∷ q) r = omega (arith, times_cons v w (q ++ r), times_cons v w q, times_append v q r)

-- of the units that are still idle, a busy one is none, and an idle one stands as before
still_times : (xs : List UnitState) (v : ℕ) (b : Bool) → (unit xs v).busy ≡ b → (q : List ℕ) →
    times v (still_idle xs q) ≡ elim b as (λ z. ℕ) [ true ↦ 0 | false ↦ times v q ]
unfolding times still_idle
still_times xs v true e [] = refl
still_times xs v false e [] = refl
still_times xs v b e (w ∷ q) = go b (unit xs w).busy e refl (still_times xs v b e q)
  where
    apart : (unit xs v).busy ≢ (unit xs w).busy → if_same v w 1 ≡ 0
    apart ne = other_is v w 1 (λ z. ne (ap (λ (y : ℕ). (unit xs y).busy) z))

    go : (b c : Bool) → (unit xs v).busy ≡ b → (unit xs w).busy ≡ c → times v (still_idle xs q) ≡ elim b as (λ z. ℕ) [ true ↦ 0 | false ↦ times v q ] →
        times v (elim c as (λ z. List ℕ) [ true ↦ still_idle xs q | false ↦ w ∷ still_idle xs q ]) ≡ elim b as (λ z. ℕ) [ true ↦ 0 | false ↦ times v (w ∷ q) ]
    go true true e d h = h
    go true false e d h = omega (arith, times_cons v w (still_idle xs q), apart (λ z. true≢false (sym e ∙ z ∙ d)), h)
    go false true e d h = omega (arith, times_cons v w q, apart (λ z. false≢true (sym e ∙ z ∙ d)), h)
    go false false e d h = omega (arith, times_cons v w (still_idle xs q), times_cons v w q, h)

-- WHO IS IDLE

busy_none : (xs : List UnitState) (v : ℕ) → (unit xs v).busy ≡ true → once_if_idle v xs ≡ 0
unfolding once_if_idle
busy_none [] v e = refl
busy_none (x ∷ xs) zero e = rw e
busy_none (x ∷ xs) (suc v) e = busy_none xs v e

idle_one : (x : UnitState) (xs : List UnitState) → x.busy ≡ false → once_if_idle 0 (x ∷ xs) ≡ 1
unfolding once_if_idle
idle_one x xs e = rw e

-- a busy unit becomes x
put_once : (x : UnitState) (xs : List UnitState) (u v : ℕ) → (unit xs u).busy ≡ true →
    once_if_idle v (put xs u x) ≡ if_same v u (once_if_idle 0 (x ∷ [])) + once_if_idle v xs
unfolding once_if_idle
put_once x [] u v e = absurd (false≢true e)
put_once x (y ∷ xs) zero zero e = omega (arith, same_is 0 0 (once_if_idle 0 (x ∷ [])) refl, busy_none (y ∷ xs) 0 e)
put_once x (y ∷ xs) zero (suc v) e = omega (arith, other_is (suc v) 0 (once_if_idle 0 (x ∷ [])) (λ z. omega arith))
put_once x (y ∷ xs) (suc u) zero e = omega (arith, other_is 0 (suc u) (once_if_idle 0 (x ∷ [])) (λ z. omega arith))
put_once x (y ∷ xs) (suc u) (suc v) e = put_once x xs u v e ∙ unfold if_same in rw (eqb-suc-suc v u, if_same)

-- no unit comes or goes, and none becomes idle
abbrev pub Woken : List UnitState → List UnitState → Type 0
Woken xs xs' = (v : ℕ) → (unit xs' v).busy ≡ false → ((unit xs v).busy ≡ false) × (once_if_idle v xs' ≡ once_if_idle v xs)

woken_put : (xs : List UnitState) (u : ℕ) (os : List Order) → Woken xs (put xs u (unit_state true os))
unfolding once_if_idle
woken_put [] u os v e = (e, refl)
woken_put (x ∷ xs) zero os zero e = absurd (true≢false e)
woken_put (x ∷ xs) zero os (suc v) e = (e, refl)
woken_put (x ∷ xs) (suc u) os zero e = (e, refl)
woken_put (x ∷ xs) (suc u) os (suc v) e = woken_put xs u os v e

woken_arrive : (j : ℕ) (xs : List UnitState) → Woken xs (map (arrive j) xs)
unfolding once_if_idle
woken_arrive j [] v e = (e, refl)
woken_arrive j (x ∷ xs) zero e =
    let b = was (zero_in j (fall j x.list)) (unfold arrive in e) in (b, idle_one (arrive j x) (map (arrive j) xs) e ∙ sym (idle_one x xs b))
  where
    was : (z : Bool) →
        (elim z as (λ y. UnitState) [ true ↦ unit_state true (fall j x.list) | false ↦ unit_state x.busy (fall j x.list) ]).busy ≡ false →
        x.busy ≡ false
    was true e = absurd (true≢false e)
    was false e = e
woken_arrive j (x ∷ xs) (suc v) e = woken_arrive j xs v e

woken_twice : (xs ys zs : List UnitState) → Woken xs ys → Woken ys zs → Woken xs zs
woken_twice xs ys zs h k v e = let (b, p) = k v e in let (c, q) = h v b in (c, p ∙ q)

-- what holds of every ending, and of the rewrite, holds of a WHOLE with a match, whatever the limits say
module _ (B : Book) (L : Limits) (u : ℕ) (s : State) (os : List Order) (p : Position) (k : ℕ) (r : Marked) where
  pub by_limits : (P : Outcome → Type 0) → ((e : Ending) → P (ended e s)) → P (do_rewrite B L u s os p k r false false) → P (do_whole B L u s os p k (some r))
  unfolding do_whole do_rewrite
  by_limits P h g = go (eqb s.rewrites L.budget) (exceeds L.symbols (size (replace p r s.term)))
    where
      go : (a b : Bool) → P (do_rewrite B L u s os p k r a b)
      go true b = h Ending.spent
      go false true = h Ending.full
      go false false = g

-- WHAT AN ENTRY DOES TO IT

pub data Moved (s s' : State) : Type 0 where
  -- no unit became busy or idle
  stays : ((v : ℕ) → once_if_idle v s'.units ≡ once_if_idle v s.units) → s'.queue ≡ s.queue → Moved s s'
  -- some units became busy, and left the queue
  leaves : Woken s.units s'.units → s'.queue ≡ still_idle s'.units s.queue → Moved s s'
  -- the unit u became idle, and joined at the end
  joins : (u : ℕ) → (unit s.units u).busy ≡ true → ((v : ℕ) → once_if_idle v s'.units ≡ if_same v u 1 + once_if_idle v s.units) →
      s'.queue ≡ s.queue ++ (u ∷ []) → Moved s s'

abbrev pub MovedAfter : State → Outcome → Type 0
MovedAfter s (going ev s') = Moved s s'
MovedAfter s (ended e s') = Unit {0}

module _ (G : Grant) (B : Book) (L : Limits) (u : ℕ) (s : State) where
  module _ (bz : (unit s.units u).busy ≡ true) (os : List Order) where
    -- the unit u is still busy, with the list l
    stay : (l : List Order) (v : ℕ) → once_if_idle v (put s.units u (unit_state true l)) ≡ once_if_idle v s.units
    unfolding once_if_idle
    stay l v = omega (arith, put_once (unit_state true l) s.units u v bz, same_zero v u)

    rest : (l : List Order) (v : ℕ) → once_if_idle v (put s.units u (unit_state false l)) ≡ if_same v u 1 + once_if_idle v s.units
    unfolding once_if_idle
    rest l v = put_once (unit_state false l) s.units u v bz

    fork_moved : (p : Position) (j : ℕ) (x : Option ℕ) → MovedAfter s (do_fork B L u s os p j x)
    unfolding do_fork
    fork_moved p j none = stays (stay _) refl
    fork_moved p j (some v) = leaves (woken_twice s.units _ _ (woken_put s.units u os) (woken_put _ v _)) refl

    join_moved : (j c : ℕ) → MovedAfter s (do_join B L u s os j c)
    unfolding do_join
    join_moved j zero = stays (stay os) refl
    join_moved j (suc c) = joins u bz (rest _) refl

    whole_moved : (p : Position) (k : ℕ) (x : Option Marked) → MovedAfter s (do_whole B L u s os p k x)
    unfolding do_whole do_rewrite
    whole_moved p k none = stays (stay os) refl
    whole_moved p k (some r) = by_limits B L u s os p k r (MovedAfter s) (λ e. tt) (stays (stay _) refl)

    order_moved : (o : Order) → MovedAfter s (carry_out_by G B L u s os o)
    unfolding carry_out_by do_visit do_exit
    order_moved (Order.visit p) = stays (stay _) refl
    order_moved (Order.fork p j) = fork_moved p j (G s)
    order_moved (Order.join j c) = join_moved j c
    order_moved (Order.exit p j) = leaves (woken_twice s.units _ _ (woken_put s.units u os) (woken_arrive j _)) refl
    order_moved (Order.whole p k) = whole_moved p k (rewrite_over cells B.rules (subterm p s.term))
    order_moved Order.sleep = joins u bz (rest _) refl
    order_moved Order.bingo = tt

  pub entry_moved : MovedAfter s (entry_by G B L u s)
  unfolding entry_by turn_by
  entry_moved = go (unit s.units u).busy refl (unit s.units u).list
    where
      go : (b : Bool) → (unit s.units u).busy ≡ b → (os : List Order) → MovedAfter s (turn_by G B L u s b os)
      go false e os = stays (λ v. refl) refl
      go true e [] = stays (λ v. refl) refl
      go true e (o ∷ os) = order_moved e os o

-- so it stays right
pub moved_queued : (s s' : State) → Moved s s' → Queued s → Queued s'
unfolding times
moved_queued s s' (stays h e) qd v = rw e (qd v ∙ sym (h v))
moved_queued s s' (leaves h e) qd v = rw e (go (unit s'.units v).busy refl)
  where
    go : (b : Bool) → (unit s'.units v).busy ≡ b → times v (still_idle s'.units s.queue) ≡ once_if_idle v s'.units
    go true b = still_times s'.units v true b s.queue ∙ sym (busy_none s'.units v b)
    go false b = still_times s'.units v false b s.queue ∙ qd v ∙ sym (h v b).1
moved_queued s s' (joins u b h e) qd v = rw e (omega (arith, qd v, h v, times_append v s.queue (u ∷ []), times_cons v u []))

abbrev pub QueuedAfter : Outcome → Type 0
QueuedAfter (going ev s) = Queued s
QueuedAfter (ended e s) = Unit {0}

pub entry_queued : (G : Grant) (B : Book) (L : Limits) (u : ℕ) (s : State) → Queued s → QueuedAfter (entry_by G B L u s)
entry_queued G B L u s qd = go (entry_by G B L u s) (entry_moved G B L u s)
  where
    go : (x : Outcome) → MovedAfter s x → QueuedAfter x
    go (going ev s') m = moved_queued s s' m qd
    go (ended e s') m = tt

-- THE START

numbers_below : (k n v : ℕ) → v < k → times v (numbers_from k n) ≡ 0
unfolding numbers_from times
numbers_below k zero v h = refl
numbers_below k (suc n) v h =
    omega (arith, times_cons v k (numbers_from (suc k) n), other_is v k 1 (λ e. omega arith), numbers_below (suc k) n v (omega arith))

numbers_asleep : (k n v : ℕ) → times (k + v) (numbers_from k n) ≡ once_if_idle v (replicate n asleep)
unfolding numbers_from times once_if_idle
numbers_asleep k zero v = refl
numbers_asleep k (suc n) zero =
    omega (arith, times_cons (k + 0) k (numbers_from (suc k) n), same_is (k + 0) k 1 (omega arith), numbers_below (suc k) n (k + 0) (omega arith))
numbers_asleep k (suc n) (suc v) =
    let e : suc k + v ≡ k + suc v = omega arith in
    omega (
      arith,
      times_cons (k + suc v) k (numbers_from (suc k) n),
      other_is (k + suc v) k 1 (λ z. omega arith),
      ap (λ (w : ℕ). times w (numbers_from (suc k) n)) e,
      numbers_asleep (suc k) n v,
    )

pub start_queued : (units : ℕ) (t : Term) → Queued (start units t)
unfolding start once_if_idle
start_queued units t zero = numbers_below 1 (units - 1) 0 (omega arith)
start_queued units t (suc v) =
    let e : 1 + v ≡ suc v = omega arith in ap (λ (w : ℕ). times w (numbers_from 1 (units - 1))) (sym e) ∙ numbers_asleep 1 (units - 1) v

-- EVERY STATE OF EVERY RUN
module _ (G : Grant) (B : Book) (L : Limits) where
  queued_from : (us : List ℕ) (s : State) → Queued s → All (λ (m : Moment). Queued m.state) (moments_from_by G B L us s)
  unfolding moments_from_by
  queued_from [] s qd = tt
  queued_from (u ∷ us) s qd = go (entry_by G B L u s) (entry_queued G B L u s qd) (queued_from us)
    where
      go : (x : Outcome) → QueuedAfter x → ((s' : State) → Queued s' → All (λ (m : Moment). Queued m.state) (moments_from_by G B L us s')) →
          All (λ (m : Moment). Queued m.state) (on (moments_from_by G B L us) x)
      go (going ev s') q k = unfold on in (q, k s' q)
      go (ended e s') q k = unfold on in tt

  pub queued_throughout : (units : ℕ) (schedule : List ℕ) (t : Term) → Throughout Queued (start units t) (moments_by G B L units schedule t)
  unfolding moments_by
  queued_throughout units schedule t = (start_queued units t, queued_from schedule (start units t) (start_queued units t))
