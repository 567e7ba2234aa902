-- Work that an idle unit takes lies above the JOIN or SLEEP that it waited at, and stays there until it has exited; and a finished run has left nothing on
-- any list but SLEEP, and BINGO on unit 0's. By any grant rule that answers idle units only. Assumes nothing.
use mathlib.Core.Bool.{Bool, true, false, true≢false}
use mathlib.Core.List.{List, [], ◌∷◌, ◌++◌, map, append_assoc}
use mathlib.Core.Logic.{◌⊎◌, inl, inr, ◌≢◌}
use mathlib.Core.Option.{Option, none, some}
use mathlib.Core.Path.{◌≡◌, refl, sym, ◌∙◌, ap, subst}
use Prim.Native.Nat.{ℕ, zero, suc, ◌-◌, ◌<◌, ◌≤◌, pred}
use native.Mathlib.Omega.{arith}
use native.Mathlib.Decide.{ℕ_discrete}
use lib.Dec.{eqb}
use lib.ListN.{length, length-set, drop}
use lib.ListN.{set as put}
use lib.Seq.{get_or-set_same, get_or-set_other}
use Rattle.paper.specs.Result.{accepted}
use Rattle.paper.specs.Tree.{Position, subterm, Correct}
use Rattle.paper.specs.Strategy.{Step}
use Rattle.paper.specs.Book.{Term, Book, arity}
use Rattle.paper.specs.Dated.{AnyBook, read_any, on_day}
use Rattle.paper.specs.Line.{symbol_limit, read_line}
use Rattle.paper.specs.Match.{rewrite_over}
use Rattle.paper.specs.Marks.{Marked, cells, bare, to_do}
use Rattle.paper.specs.Machine.{Order, orders, lower, fall, arrive, zero_in, UnitState, unit_state, asleep, State, Event, Ending, Outcome, going, ended, Limits, Grant, unit, do_visit, do_fork, do_join, do_exit, do_rewrite, do_whole, carry_out_by, turn_by, entry_by, in_force, start}
use Rattle.paper.specs.Run.{Answer, Moment, on, moments_from_by, moments_by}
use Rattle.paper.specs.Sound.{Sound}
use Rattle.paper.specs.Idle.{IsIdle, Queued, OnlyIdle, SameOrder, SameOrders, StandsOn, UntilExited, Taken, EachTaken, left_in, Done, Helps}
use Rattle.paper.proofs.Dated.{day_sound}
use Rattle.paper.proofs.Course.{Course, c_cut, c_end, c_more, e_finished, e_spent, e_full}
use Rattle.paper.proofs.Demand3.{first, start_inv, whole_course}
use Rattle.paper.proofs.Entry.{entry_next_by}
use Rattle.paper.proofs.Exit.{arrive_unit}
use Rattle.paper.proofs.Ghost.{Ghost, todo}
use Rattle.paper.proofs.Idle.{longest_idle}
use Rattle.paper.proofs.Invariant.{Inv, Next, n_going}
use Rattle.paper.proofs.Line.{line_correct}
use Rattle.paper.proofs.Numbers.{exits_of, fall_append}
use Rattle.paper.proofs.Queue.{by_limits, QueuedAfter, entry_queued, start_queued}
use Rattle.paper.proofs.Stack.{asleep_at, busy_in}
use Rattle.paper.proofs.View.{Block}
use Rattle.paper.proofs.Waits.{idle_waits, still_done}

-- WHAT AN ENTRY KEEPS OF A LIST

-- the first k orders are no EXITs
abbrev NoExits : ℕ → List Order → Type 0
NoExits zero os = Unit {0}
NoExits (suc k) [] = Unit {0}
NoExits (suc k) (Order.visit p ∷ os) = NoExits k os
NoExits (suc k) (Order.fork p j ∷ os) = NoExits k os
NoExits (suc k) (Order.join j c ∷ os) = NoExits k os
NoExits (suc k) (Order.exit p j ∷ os) = ⊥
NoExits (suc k) (Order.whole p i ∷ os) = NoExits k os
NoExits (suc k) (Order.sleep ∷ os) = NoExits k os
NoExits (suc k) (Order.bingo ∷ os) = NoExits k os

-- the orders below a WHOLE that are its term's are no EXITs
abbrev Owns : List Order → Type 0
Owns [] = Unit {0}
Owns (Order.visit p ∷ os) = Owns os
Owns (Order.fork p j ∷ os) = Owns os
Owns (Order.join j c ∷ os) = Owns os
Owns (Order.exit p j ∷ os) = Owns os
Owns (Order.whole p k ∷ os) = NoExits k os × Owns os
Owns (Order.sleep ∷ os) = Owns os
Owns (Order.bingo ∷ os) = Owns os

-- P is kept by what entries do to a list, but for an EXIT at which Stop holds
record Kept (P : List Order → Type 0) (Stop : Position → ℕ → Type 0) : Type 0 where
  visited : (p : Position) (os : List Order) → P (Order.visit p ∷ os) → P os
  forked : (p : Position) (j : ℕ) (os : List Order) → P (Order.fork p j ∷ os) → P os
  joined : (j c : ℕ) (os : List Order) → P (Order.join j c ∷ os) → P os
  exited : (p : Position) (j : ℕ) (os : List Order) → P (Order.exit p j ∷ os) → Stop p j ⊎ P os
  missed : (p : Position) (k : ℕ) (os : List Order) → P (Order.whole p k ∷ os) → P os
  rewrote : (p : Position) (k : ℕ) (os : List Order) → P (Order.whole p k ∷ os) → P (drop k os)
  fallen : (j : ℕ) (os : List Order) → P os → P (fall j os)
  visit : (p : Position) (os : List Order) → P os → P (Order.visit p ∷ os)
  exit : (p : Position) (j : ℕ) (os : List Order) → P os → P (Order.exit p j ∷ os)
  steps : (j : ℕ) (p : Position) (ss : List Step) (os : List Order) → P os → P (orders j p ss ++ os)

abbrev Stopped : (Position → ℕ → Type 0) → Event → Type 0
Stopped Stop Event.idled = ⊥
Stopped Stop Event.visited = ⊥
Stopped Stop (Event.forked p j) = ⊥
Stopped Stop Event.kept = ⊥
Stopped Stop (Event.passed j) = ⊥
Stopped Stop Event.waited = ⊥
Stopped Stop (Event.exited p j) = Stop p j
Stopped Stop Event.missed = ⊥
Stopped Stop Event.rewrote = ⊥
Stopped Stop Event.slept = ⊥

abbrev list_at : State → ℕ → List Order
list_at s v = (unit s.units v).list

never : (ev : Event) → Stopped (λ p j. ⊥) ev → ⊥
never Event.idled h = h
never Event.visited h = h
never (Event.forked p j) h = h
never Event.kept h = h
never (Event.passed j) h = h
never Event.waited h = h
never (Event.exited p j) h = h
never Event.missed h = h
never Event.rewrote h = h
never Event.slept h = h

-- an entry that leaves the outcome keeps P of each unit's list
abbrev Keeps : (P : List Order → Type 0) (Stop : Position → ℕ → Type 0) → State → Outcome → Type 0
Keeps P Stop s (going ev s') = (v : ℕ) → P (list_at s v) → Stopped Stop ev ⊎ P (list_at s' v)
Keeps P Stop s (ended e s') = Unit {0}

-- where one unit's list changes
put_list : (P : List Order → Type 0) (xs : List UnitState) (u : ℕ) (x : UnitState) → u < length xs → (P (unit xs u).list → P x.list) → (v : ℕ) →
    P (unit xs v).list → P (unit (put xs u x) v).list
put_list P xs u x h f v q = go (ℕ_discrete v u)
  where
    go : Dec (v ≡ u) → P (unit (put xs u x) v).list
    go (yes e) =
        subst (λ (z : ℕ). P (unit (put xs u x) z).list) (sym e)
        (subst (λ (y : UnitState). P y.list) (sym (get_or-set_same xs u x asleep h)) (f (subst (λ (z : ℕ). P (unit xs z).list) e q)))
    go (no ne) = subst (λ (y : UnitState). P y.list) (sym (get_or-set_other xs u v x asleep ne)) q

arrive_list : (j : ℕ) (x : UnitState) → (arrive j x).list ≡ fall j x.list
unfolding arrive
arrive_list j x = go (zero_in j (fall j x.list))
  where
    go : (b : Bool) →
        (elim b as (λ y. UnitState) [ true ↦ unit_state true (fall j x.list) | false ↦ unit_state x.busy (fall j x.list) ]).list ≡ fall j x.list
    go true = refl
    go false = refl

-- ONE ENTRY
module _ (G : Grant) (only : OnlyIdle G) (B : Book) (L : Limits) (u : ℕ) (s : State) (qd : Queued s) (bz : (unit s.units u).busy ≡ true) where
  in_range : u < length s.units
  in_range = busy_in s.units u bz

  module _ (P : List Order → Type 0) (Stop : Position → ℕ → Type 0) (k : Kept P Stop) where
    -- unit u's list changes from l to the list of x
    one_list : (l : List Order) → (unit s.units u).list ≡ l → (x : UnitState) → (P l → P x.list) → (v : ℕ) → P (list_at s v) →
        P (unit (put s.units u x) v).list
    one_list l e x f = put_list P s.units u x in_range (λ q. f (subst P e q))

    fork_keeps : (p : Position) (j : ℕ) (os : List Order) → (unit s.units u).list ≡ Order.fork p j ∷ os → (x : Option ℕ) → ((v : ℕ) → x ≡ some v → IsIdle s v) →
        Keeps P Stop s (do_fork B L u s os p j x)
    unfolding do_fork
    fork_keeps p j os e none picks = λ v q.
        inr (one_list _ e (unit_state true (Order.visit p ∷ fall j os)) (λ z. k.visit p _ (k.fallen j os (k.forked p j os z))) v q)
    fork_keeps p j os e (some w) picks = λ v q.
        let (i, b) = picks w refl in
        let ne : w ≢ u = λ z. true≢false (sym bz ∙ ap (λ (y : ℕ). (unit s.units y).busy) (sym z) ∙ b) in
        let same = get_or-set_other s.units u w (unit_state true os) asleep ne in
        inr (put_list P (put s.units u (unit_state true os)) w (unit_state true (Order.visit p ∷ Order.exit p j ∷ (unit s.units w).list))
        (rw (length-set s.units u (unit_state true os)) i)
        (λ z. k.visit p _ (k.exit p j _ (subst (λ (y : UnitState). P y.list) same z))) v (one_list _ e (unit_state true os) (k.forked p j os) v q))

    join_keeps : (j c : ℕ) (os : List Order) → (unit s.units u).list ≡ Order.join j c ∷ os → Keeps P Stop s (do_join B L u s os j c)
    unfolding do_join
    join_keeps j zero os e = λ v q. inr (one_list _ e (unit_state true os) (k.joined j 0 os) v q)
    join_keeps j (suc c) os e = λ v q. inr (one_list _ e (unit_state false (Order.join j (suc c) ∷ os)) (λ z. z) v q)

    -- of the unit that carries an EXIT out, what is below it
    abbrev left : List Order → List UnitState
    left os = put s.units u (unit_state true os)

    exit_keeps : (p : Position) (j : ℕ) (os : List Order) → (unit s.units u).list ≡ Order.exit p j ∷ os → Keeps P Stop s (do_exit B L u s os p j)
    unfolding do_exit
    exit_keeps p j os e = λ v q. by_unit v q (ℕ_discrete v u)
      where
        after : (v : ℕ) → P (unit (left os) v).list → P (unit (map (arrive j) (left os)) v).list
        after v z =
            subst P (sym (ap (λ (y : UnitState). y.list) (arrive_unit j (left os) v) ∙ arrive_list j (unit (left os) v))) (k.fallen j _ z)

        by_unit : (v : ℕ) → P (list_at s v) → Dec (v ≡ u) → Stop p j ⊎ P (unit (map (arrive j) (left os)) v).list
        by_unit v q (yes d) =
            let l : (unit (left os) v).list ≡ os =
            ap (λ (z : ℕ). (unit (left os) z).list) d ∙ ap (λ (y : UnitState). y.list) (get_or-set_same s.units u (unit_state true os) asleep in_range) in
            elim (k.exited p j os (subst P (ap (λ (z : ℕ). list_at s z) d ∙ e) q)) [ inl stop ↦ inl stop | inr r ↦ inr (after v (subst P (sym l) r)) ]
        by_unit v q (no ne) =
            inr (after v (subst (λ (y : UnitState). P y.list) (sym (get_or-set_other s.units u v (unit_state true os) asleep ne)) q))

    whole_keeps : (p : Position) (i : ℕ) (os : List Order) → (unit s.units u).list ≡ Order.whole p i ∷ os → (r : Option Marked) → Keeps P Stop s (do_whole B L u s os p i r)
    unfolding do_whole do_rewrite
    whole_keeps p i os e none = λ v q. inr (one_list _ e (unit_state true os) (k.missed p i os) v q)
    whole_keeps p i os e (some r) =
        by_limits B L u s os p i r (Keeps P Stop s) (λ e. tt)
        (λ v q. inr (one_list _ e (unit_state true (Order.visit p ∷ drop i os)) (λ z. k.visit p _ (k.rewrote p i os z)) v q))

    order_keeps : (o : Order) (os : List Order) → (unit s.units u).list ≡ o ∷ os → Keeps P Stop s (carry_out_by G B L u s os o)
    unfolding carry_out_by do_visit
    order_keeps (Order.visit p) os e = λ v q.
        inr (one_list _ e (unit_state true (orders s.joins p (to_do B (subterm p s.term)) ++ os)) (λ z. k.steps s.joins p (to_do B (subterm p s.term)) os (k.visited p os z)) v q)
    order_keeps (Order.fork p j) os e = fork_keeps p j os e (G s) (only s qd)
    order_keeps (Order.join j c) os e = join_keeps j c os e
    order_keeps (Order.exit p j) os e = exit_keeps p j os e
    order_keeps (Order.whole p i) os e = whole_keeps p i os e (rewrite_over cells B.rules (subterm p s.term))
    order_keeps Order.sleep os e = λ v q. inr (one_list _ e (unit_state false (Order.sleep ∷ os)) (λ z. z) v q)
    order_keeps Order.bingo os e = tt

module _ (G : Grant) (only : OnlyIdle G) (B : Book) (L : Limits) (u : ℕ) (s : State) (qd : Queued s) where
  entry_keeps : (P : List Order → Type 0) (Stop : Position → ℕ → Type 0) → Kept P Stop → Keeps P Stop s (entry_by G B L u s)
  unfolding entry_by
  entry_keeps P Stop k = go (unit s.units u).busy (unit s.units u).list refl refl
    where
      go : (b : Bool) (l : List Order) → (unit s.units u).busy ≡ b → (unit s.units u).list ≡ l → Keeps P Stop s (turn_by G B L u s b l)
      go false l bz e = unfold turn_by in λ v q. inr q
      go true [] bz e = unfold turn_by in λ v q. inr q
      go true (o ∷ os) bz e = unfold turn_by in order_keeps G only B L u s qd bz P Stop k o os e

-- THE ORDERS BELOW A WHOLE

no_exits_fall : (j k : ℕ) (os : List Order) → NoExits k os → NoExits k (fall j os)
unfolding lower
no_exits_fall j zero os h = tt
no_exits_fall j (suc k) [] h = tt
no_exits_fall j (suc k) (Order.visit p ∷ os) h = no_exits_fall j k os h
no_exits_fall j (suc k) (Order.fork p i ∷ os) h = no_exits_fall j k os h
no_exits_fall j (suc k) (Order.join i c ∷ os) h = go (eqb j i) (no_exits_fall j k os h)
  where
    go : (b : Bool) → NoExits k (fall j os) → NoExits (suc k) (elim b as (λ y. Order) [ true ↦ Order.join i (pred c) | false ↦ Order.join i c ] ∷ fall j os)
    go true r = r
    go false r = r
no_exits_fall j (suc k) (Order.exit p i ∷ os) h = absurd h
no_exits_fall j (suc k) (Order.whole p i ∷ os) h = no_exits_fall j k os h
no_exits_fall j (suc k) (Order.sleep ∷ os) h = no_exits_fall j k os h
no_exits_fall j (suc k) (Order.bingo ∷ os) h = no_exits_fall j k os h

owns_fall : (j : ℕ) (os : List Order) → Owns os → Owns (fall j os)
unfolding lower
owns_fall j [] h = tt
owns_fall j (Order.visit p ∷ os) h = owns_fall j os h
owns_fall j (Order.fork p i ∷ os) h = owns_fall j os h
owns_fall j (Order.join i c ∷ os) h = go (eqb j i) (owns_fall j os h)
  where
    go : (b : Bool) → Owns (fall j os) → Owns (elim b as (λ y. Order) [ true ↦ Order.join i (pred c) | false ↦ Order.join i c ] ∷ fall j os)
    go true r = r
    go false r = r
owns_fall j (Order.exit p i ∷ os) h = owns_fall j os h
owns_fall j (Order.whole p k ∷ os) h = (no_exits_fall j k os h.0, owns_fall j os h.1)
owns_fall j (Order.sleep ∷ os) h = owns_fall j os h
owns_fall j (Order.bingo ∷ os) h = owns_fall j os h

owns_pop : (o : Order) (os : List Order) → Owns (o ∷ os) → Owns os
owns_pop (Order.visit p) os h = h
owns_pop (Order.fork p j) os h = h
owns_pop (Order.join j c) os h = h
owns_pop (Order.exit p j) os h = h
owns_pop (Order.whole p k) os h = h.1
owns_pop Order.sleep os h = h
owns_pop Order.bingo os h = h

owns_drop : (k : ℕ) (os : List Order) → Owns os → Owns (drop k os)
owns_drop zero os h = h
owns_drop (suc k) [] h = tt
owns_drop (suc k) (o ∷ os) h = owns_drop k os (owns_pop o os h)

steps_no_exits : (j : ℕ) (p : Position) (ss : List Step) (os : List Order) → NoExits (length ss) (orders j p ss ++ os)
unfolding orders
steps_no_exits j p [] os = tt
steps_no_exits j p (Step.visit i ∷ ss) os = steps_no_exits j p ss os
steps_no_exits j p (Step.fork i ∷ ss) os = steps_no_exits j p ss os
steps_no_exits j p (Step.join c ∷ ss) os = steps_no_exits (suc j) p ss os
steps_no_exits j p (Step.whole ∷ ss) os = steps_no_exits j p ss os

steps_owns : (j : ℕ) (p : Position) (ss : List Step) (os : List Order) → Owns os → Owns (orders j p ss ++ os)
unfolding orders
steps_owns j p [] os h = h
steps_owns j p (Step.visit i ∷ ss) os h = steps_owns j p ss os h
steps_owns j p (Step.fork i ∷ ss) os h = steps_owns j p ss os h
steps_owns j p (Step.join c ∷ ss) os h = steps_owns (suc j) p ss os h
steps_owns j p (Step.whole ∷ ss) os h = (steps_no_exits j p ss os, steps_owns j p ss os h)

owns_kept : Kept Owns (λ p j. ⊥)
owns_kept = record {
  visited = λ p os h. h;
  forked = λ p j os h. h;
  joined = λ j c os h. h;
  exited = λ p j os h. inr h;
  missed = λ p k os h. h.1;
  rewrote = λ p k os h. owns_drop k os h.1;
  fallen = owns_fall;
  visit = λ p os h. h;
  exit = λ p j os h. h;
  steps = steps_owns;
}

-- THE ORDERS BELOW AN EXIT

same_order : (o : Order) → SameOrder o o
same_order (Order.visit p) = refl
same_order (Order.fork p j) = refl
same_order (Order.join j c) = (c, omega arith, refl)
same_order (Order.exit p j) = refl
same_order (Order.whole p k) = refl
same_order Order.sleep = refl
same_order Order.bingo = refl

same_orders : (os : List Order) → SameOrders os os
same_orders [] = tt
same_orders (o ∷ os) = (same_order o, same_orders os)

order_fall : (k : ℕ) (o x : Order) → SameOrder o x → SameOrder o (lower k x)
unfolding lower
order_fall k (Order.visit p) x e = rw e
order_fall k (Order.fork p j) x e = rw e
order_fall k (Order.join j c) x (d, le, e) = rw e (go (eqb k j))
  where
    go : (b : Bool) → (z : ℕ) × (z ≤ c) × (elim b as (λ y. Order) [ true ↦ Order.join j (pred d) | false ↦ Order.join j d ] ≡ Order.join j z)
    go true = (pred d, omega arith, refl)
    go false = (d, le, refl)
order_fall k (Order.exit p j) x e = rw e
order_fall k (Order.whole p i) x e = rw e
order_fall k Order.sleep x e = rw e
order_fall k Order.bingo x e = rw e

orders_fall : (k : ℕ) (os xs : List Order) → SameOrders os xs → SameOrders os (fall k xs)
orders_fall k [] [] h = tt
orders_fall k [] (x ∷ xs) h = absurd h
orders_fall k (o ∷ os) [] h = absurd h
orders_fall k (o ∷ os) (x ∷ xs) h = (order_fall k o x h.0, orders_fall k os xs h.1)

-- the EXIT of the part at p, of the number j, with the orders os below it
module _ (os : List Order) (p : Position) (j : ℕ) where
  abbrev Stops : Position → ℕ → Type 0
  Stops q i = Event.exited q i ≡ Event.exited p j

  stands_pop : (o : Order) (now : List Order) → StandsOn os p j (o ∷ now) → (o ≡ Order.exit p j) ⊎ StandsOn os p j now
  stands_pop o now ([], below, e, h) = inl cc
  stands_pop o now (a ∷ above, below, e, h) = inr (above, below, cc, h)

  -- an order that is no EXIT stands above it
  stands_under : (o : Order) (now : List Order) → exits_of (λ q i. 1) o ≡ 0 → StandsOn os p j (o ∷ now) → StandsOn os p j now
  unfolding exits_of
  stands_under o now ne h = elim (stands_pop o now h) [ inl e ↦ absurd (omega (arith, ne, ap (exits_of (λ q i. 1)) e)) | inr r ↦ r ]

  stands_push : (xs now : List Order) → StandsOn os p j now → StandsOn os p j (xs ++ now)
  stands_push xs now (above, below, e, h) = (xs ++ above, below, ap (λ (z : List Order). xs ++ z) e ∙ sym (append_assoc xs above _), h)

  stands_fall : (i : ℕ) (now : List Order) → StandsOn os p j now → StandsOn os p j (fall i now)
  unfolding lower
  stands_fall i now (above, below, e, h) =
      (fall i above, fall i below, ap (fall i) e ∙ fall_append i above (Order.exit p j ∷ below), orders_fall i os below h)

  stands_drop : (k : ℕ) (now : List Order) → NoExits k now → StandsOn os p j now → StandsOn os p j (drop k now)
  unfolding exits_of
  stands_drop zero now n h = h
  stands_drop (suc k) [] n h = h
  stands_drop (suc k) (Order.visit q ∷ now) n h = stands_drop k now n (stands_under _ now refl h)
  stands_drop (suc k) (Order.fork q i ∷ now) n h = stands_drop k now n (stands_under _ now refl h)
  stands_drop (suc k) (Order.join i c ∷ now) n h = stands_drop k now n (stands_under _ now refl h)
  stands_drop (suc k) (Order.exit q i ∷ now) n h = absurd n
  stands_drop (suc k) (Order.whole q i ∷ now) n h = stands_drop k now n (stands_under _ now refl h)
  stands_drop (suc k) (Order.sleep ∷ now) n h = stands_drop k now n (stands_under _ now refl h)
  stands_drop (suc k) (Order.bingo ∷ now) n h = stands_drop k now n (stands_under _ now refl h)

  stands_kept : Kept (λ (now : List Order). Owns now × StandsOn os p j now) Stops
  unfolding exits_of
  stands_kept = record {
    visited = λ q now h. (h.0, stands_under _ now refl h.1);
    forked = λ q i now h. (h.0, stands_under _ now refl h.1);
    joined = λ i c now h. (h.0, stands_under _ now refl h.1);
    exited = λ q i now h. elim (stands_pop _ now h.1) [ inl e ↦ inl cc | inr r ↦ inr (h.0, r) ];
    missed = λ q k now h. (h.0.1, stands_under _ now refl h.1);
    rewrote = λ q k now h. (owns_drop k now h.0.1, stands_drop k now h.0.0 (stands_under _ now refl h.1));
    fallen = λ i now h. (owns_fall i now h.0, stands_fall i now h.1);
    visit = λ q now h. (h.0, stands_push (Order.visit q ∷ []) now h.1);
    exit = λ q i now h. (h.0, stands_push (Order.exit q i ∷ []) now h.1);
    steps = λ i q ss now h. (steps_owns i q ss now h.0, stands_push (orders i q ss) now h.1);
  }

-- A RUN
abbrev AllOwn : State → Type 0
AllOwn s = (v : ℕ) → Owns (list_at s v)

-- what a granted FORK leaves
abbrev Gave : State → Event → State → Type 0
Gave s Event.idled s' = Unit {0}
Gave s Event.visited s' = Unit {0}
Gave s (Event.forked p j) s' = (v : ℕ) × IsIdle s v × (list_at s' v ≡ Order.visit p ∷ Order.exit p j ∷ list_at s v)
Gave s Event.kept s' = Unit {0}
Gave s (Event.passed j) s' = Unit {0}
Gave s Event.waited s' = Unit {0}
Gave s (Event.exited p j) s' = Unit {0}
Gave s Event.missed s' = Unit {0}
Gave s Event.rewrote s' = Unit {0}
Gave s Event.slept s' = Unit {0}

abbrev Gives : State → Outcome → Type 0
Gives s (going ev s') = Gave s ev s'
Gives s (ended e s') = Unit {0}

module _ (G : Grant) (only : OnlyIdle G) (B : Book) (L : Limits) (u : ℕ) (s : State) (qd : Queued s) where
  fork_gives : (os : List Order) (p : Position) (j : ℕ) (x : Option ℕ) → ((v : ℕ) → x ≡ some v → IsIdle s v) → Gives s (do_fork B L u s os p j x)
  unfolding do_fork
  fork_gives os p j none picks = tt
  fork_gives os p j (some v) picks =
      let i = picks v refl in
      (v, i, ap (λ (y : UnitState). y.list) (get_or-set_same (put s.units u (unit_state true os)) v _ asleep (rw (length-set s.units u (unit_state true os)) i.0)))

  whole_gives : (os : List Order) (p : Position) (k : ℕ) (r : Option Marked) → Gives s (do_whole B L u s os p k r)
  unfolding do_whole do_rewrite
  whole_gives os p k none = tt
  whole_gives os p k (some r) = by_limits B L u s os p k r (Gives s) (λ e. tt) tt

  order_gives : (os : List Order) (o : Order) → Gives s (carry_out_by G B L u s os o)
  unfolding carry_out_by do_visit do_join do_exit
  order_gives os (Order.visit p) = tt
  order_gives os (Order.fork p j) = fork_gives os p j (G s) (only s qd)
  order_gives os (Order.join j zero) = tt
  order_gives os (Order.join j (suc c)) = tt
  order_gives os (Order.exit p j) = tt
  order_gives os (Order.whole p k) = whole_gives os p k (rewrite_over cells B.rules (subterm p s.term))
  order_gives os Order.sleep = tt
  order_gives os Order.bingo = tt

  entry_gives : Gives s (entry_by G B L u s)
  unfolding entry_by turn_by
  entry_gives = go (unit s.units u).busy (unit s.units u).list
    where
      go : (b : Bool) (l : List Order) → Gives s (turn_by G B L u s b l)
      go false l = tt
      go true [] = tt
      go true (o ∷ os) = order_gives os o

module _ (G : Grant) (only : OnlyIdle G) (B : Book) (L : Limits) where
  -- until its EXIT has been carried out, work taken stands on what was below
  stands_until : (os : List Order) (p : Position) (j v : ℕ) (us : List ℕ) (s : State) → Queued s → Owns (list_at s v) × StandsOn os p j (list_at s v) →
      UntilExited p j (λ (z : State). StandsOn os p j (list_at z v)) (moments_from_by G B L us s)
  unfolding moments_from_by
  stands_until os p j v [] s qd h = tt
  stands_until os p j v (u ∷ us) s qd h =
      go (entry_by G B L u s) (entry_queued G B L u s qd) (entry_keeps G only B L u s qd _ (Stops os p j) (stands_kept os p j))
      (λ s'. stands_until os p j v us s')
    where
      after : (ev : Event) (s' : State) → Stopped (Stops os p j) ev ⊎ (Owns (list_at s' v) × StandsOn os p j (list_at s' v)) →
          (Owns (list_at s' v) × StandsOn os p j (list_at s' v) → UntilExited p j (λ (z : State). StandsOn os p j (list_at z v)) (moments_from_by G B L us s')) →
          (ev ≡ Event.exited p j) ⊎ (StandsOn os p j (list_at s' v) × UntilExited p j (λ (z : State). StandsOn os p j (list_at z v)) (moments_from_by G B L us s'))
      after (Event.exited q i) s' (inl e) r = inl e
      after Event.idled s' (inl e) r = absurd e
      after Event.visited s' (inl e) r = absurd e
      after (Event.forked q i) s' (inl e) r = absurd e
      after Event.kept s' (inl e) r = absurd e
      after (Event.passed i) s' (inl e) r = absurd e
      after Event.waited s' (inl e) r = absurd e
      after Event.missed s' (inl e) r = absurd e
      after Event.rewrote s' (inl e) r = absurd e
      after Event.slept s' (inl e) r = absurd e
      after ev s' (inr q) r = inr (q.1, r q)

      go : (x : Outcome) → QueuedAfter x → Keeps (λ (now : List Order). Owns now × StandsOn os p j now) (Stops os p j) s x →
          ((s' : State) → Queued s' → Owns (list_at s' v) × StandsOn os p j (list_at s' v) →
          UntilExited p j (λ (z : State). StandsOn os p j (list_at z v)) (moments_from_by G B L us s')) →
          UntilExited p j (λ (z : State). StandsOn os p j (list_at z v)) (on (moments_from_by G B L us) x)
      go (going ev s') qd' k r = unfold on in after ev s' (k v h) (r s' qd')
      go (ended e s') qd' k r = unfold on in tt

  -- each FORK that gives its part to a unit
  each_taken : (sound : Sound B) (us : List ℕ) (s : State) (D : Ghost) (bs : List Block) → Inv B L s D bs → Queued s → AllOwn s →
      EachTaken s (moments_from_by G B L us s)
  unfolding moments_from_by
  each_taken sound [] s D bs inv qd own = tt
  each_taken sound (u ∷ us) s D bs inv qd own =
      go (entry_by G B L u s) (entry_next_by G only B L sound s qd u D bs inv) (entry_queued G B L u s qd) (entry_gives G only B L u s qd)
      (entry_keeps G only B L u s qd Owns (λ p j. ⊥) owns_kept)
      (λ s' D' bs'. each_taken sound us s' D' bs')
    where
      taken : (ev : Event) (s' : State) → Queued s' → Gave s ev s' → AllOwn s' → Taken s (record { event = ev; state = s' }) (moments_from_by G B L us s')
      taken ev s' qd' g own' p j e =
          let (v, i, l) = subst (λ (z : Event). Gave s z s') e g in (
            v,
            i,
            idle_waits B L s D bs inv v i,
            l,
            stands_until (list_at s v) p j v us s' qd' (own' v, (Order.visit p ∷ [], list_at s v, l, same_orders (list_at s v))),
          )

      owned : (ev : Event) (s' : State) → ((v : ℕ) → Owns (list_at s v) → Stopped (λ p j. ⊥) ev ⊎ Owns (list_at s' v)) → AllOwn s'
      owned ev s' k v = elim (k v (own v)) [ inl z ↦ absurd (never ev z) | inr r ↦ r ]

      go : (x : Outcome) → Next B L u s D bs x → QueuedAfter x → Gives s x → Keeps Owns (λ p j. ⊥) s x →
          ((s' : State) (D' : Ghost) (bs' : List Block) → Inv B L s' D' bs' → Queued s' → AllOwn s' → EachTaken s' (moments_from_by G B L us s')) →
          EachTaken s (on (moments_from_by G B L us) x)
      go (going ev s') (n_going D' bs' inv' hn sh cn mv ln sw) qd' g k r =
          unfold on in let own' = owned ev s' k in (taken ev s' qd' g own', r s' D' bs' inv' qd' own')
      go (ended e s') n qd' g k r = unfold on in tt

start_owns : (units : ℕ) (t : Term) → AllOwn (start units t)
unfolding start
start_owns units t zero = tt
start_owns units t (suc v) = subst (λ (x : UnitState). Owns x.list) (sym (asleep_at (units - 1) v)) tt

-- A FINISHED RUN
pub course_done : {B : Book} {L : Limits} {n : ℕ} {us : List ℕ} {s : State} {D : Ghost} {bs : List Block} {A : Answer} {ms : List Moment} → Course B L n us s D bs A ms →
    A.ending ≡ Ending.finished → Done (left_in s ms)
course_done (c_cut inv) e = let z : ◌≡◌ {A = ℕ} 0 1 = cc in absurd (omega arith)
course_done (c_end inv (e_finished h)) e = still_done _ _ _ _ _ inv h
course_done (c_end inv (e_spent q h)) e = let z : ◌≡◌ {A = ℕ} 0 1 = cc in absurd (omega arith)
course_done (c_end inv (e_full k q)) e = let z : ◌≡◌ {A = ℕ} 0 1 = cc in absurd (omega arith)
course_done (c_more inv hn sh cn mv ln sw c) e = course_done c e

pub helps_of : (G : Grant) → OnlyIdle G → (B : Book) → Sound B → (t : Term) → Correct (arity B) t → (L : Limits) (units : ℕ) (schedule : List ℕ) →
    Helps G B L units schedule t
unfolding moments_by
helps_of G only B sound t c L units schedule = record {
  above = each_taken G only B L sound schedule (start units t) (todo (bare t)) first (start_inv B L units t c) (start_queued units t) (start_owns units t);
  done = course_done (whole_course G only B sound t c L units schedule);
}

-- of accepted bytes, by the rules that stand on the run's day
pub helps : (bytes line : List ℕ) (A : AnyBook) (d : ℕ) (t : Term) → read_any bytes ≡ accepted A → read_line (on_day d A) line ≡ accepted t →
    (units budget : ℕ) (schedule : List ℕ) → let L : Limits = record { budget = budget; symbols = some symbol_limit } in
    Helps in_force (on_day d A) L units schedule t
helps bytes line A d t e q units budget schedule =
    let B = on_day d A in
    helps_of in_force longest_idle B (day_sound bytes A e d) t (line_correct B line t q).0 (record { budget = budget; symbols = some symbol_limit }) units schedule
