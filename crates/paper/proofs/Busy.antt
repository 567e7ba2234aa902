-- How many units are busy, and what an entry does to that: a unit that waits or sleeps is one less, a FORK that is granted makes one more, an EXIT at most one more.
-- Assumes nothing.
use mathlib.Core.Bool.{Bool, true, false, true≢false}
use mathlib.Core.List.{List, [], ◌∷◌, ◌++◌, map}
use mathlib.Core.Logic.{inl, inr}
use mathlib.Core.Option.{Option, none, some}
use mathlib.Core.Path.{◌≡◌, refl, sym, ◌∙◌, ap, subst}
use Prim.Native.Nat.{ℕ, zero, suc, ◌+◌, ◌<◌, ◌≤◌}
use native.Mathlib.Omega.{arith}
use lib.Dec.{eqb, ltb}
use lib.ListN.{length, drop}
use lib.ListN.{set as put}
use Rattle.paper.specs.Tree.{Position, size, subterm, replace}
use Rattle.paper.specs.Book.{Book}
use Rattle.paper.specs.Match.{rewrite_over}
use Rattle.paper.specs.Marks.{Marked, cells, to_do}
use Rattle.paper.specs.Machine.{Order, orders, fall, is_zero, zero_in, arrive, UnitState, unit_state, unit, Grant, State, Event, Outcome, going, ended, Limits, exceeds, do_visit, do_fork, do_join, do_exit, do_rewrite, do_whole, carry_out_by, turn_by, entry_by}
use Rattle.paper.specs.Enough.{order_of}
use Rattle.paper.proofs.Ghost.{Ghost}
use Rattle.paper.proofs.Invariant.{Inv, left_by, placed_by}
use Rattle.paper.proofs.Local.{bottom_tally}
use Rattle.paper.proofs.Numbers.{tally, over, tally_append, same_is, joins_of, fall_tally}
use Rattle.paper.proofs.OneUnit.{one}
use Rattle.paper.proofs.Stack.{bottom, blocks_of, list_of, blocks_same, blocks_other, blocks_none, busy_in}
use Rattle.paper.proofs.Tests.{eqb_cases, eqb_equal, ltb_cases}
use Rattle.paper.proofs.View.{Block, sum}

-- A MEASURE OF UNITS, ADDED UP
unfoldable pub over_units : (UnitState → ℕ) → List UnitState → ℕ
over_units f [] = 0
over_units f (x ∷ xs) = f x + over_units f xs

-- the busy units
abbrev pub awake : List UnitState → ℕ
awake xs = over_units order_of xs

module _ (f : UnitState → ℕ) where
  -- unit u gives way to x
  put_units : (xs : List UnitState) (u : ℕ) (x : UnitState) → u < length xs → over_units f (put xs u x) + f (unit xs u) ≡ over_units f xs + f x
  unfolding over_units
  put_units [] u x h = absurd (omega arith)
  put_units (y ∷ xs) zero x h = omega arith
  put_units (y ∷ xs) (suc u) x h = omega (arith, put_units xs u x (omega arith))

  put_most : (xs : List UnitState) (u : ℕ) (x : UnitState) → over_units f (put xs u x) ≤ over_units f xs + f x
  unfolding over_units
  put_most [] u x = omega arith
  put_most (y ∷ xs) zero x = omega arith
  put_most (y ∷ xs) (suc u) x = omega (arith, put_most xs u x)

pub busy_counts : (x : UnitState) → x.busy ≡ true → order_of x ≡ 1
unfolding order_of
busy_counts x e = rw (e, order_of)

pub at_most_one : (x : UnitState) → order_of x ≤ 1
unfolding order_of
at_most_one x = go x.busy
  where
    go : (z : Bool) → elim z as (λ y. ℕ) [ true ↦ 1 | false ↦ 0 ] ≤ 1
    go true = omega arith
    go false = omega arith

pub some_awake : (xs : List UnitState) (u : ℕ) → (unit xs u).busy ≡ true → 1 ≤ awake xs
unfolding over_units
some_awake [] u e = absurd (true≢false (sym e))
some_awake (x ∷ xs) zero e = omega (arith, busy_counts x e)
some_awake (x ∷ xs) (suc u) e = omega (arith, some_awake xs u e)

-- AN EXIT WAKES AT MOST ONE UNIT, since its JOIN stands in one list

-- where a JOIN stands with count 0, it stands
zero_there : (j : ℕ) (os : List Order) → zero_in j os ≡ true → 1 ≤ tally (joins_of j) os
unfolding zero_in is_zero tally joins_of
zero_there j [] e = absurd (true≢false (sym e))
zero_there j (Order.visit p ∷ os) e = omega (arith, zero_there j os e)
zero_there j (Order.fork p k ∷ os) e = omega (arith, zero_there j os e)
zero_there j (Order.join k zero ∷ os) e = go (eqb j k) refl e (zero_there j os)
  where
    go : (z : Bool) → eqb j k ≡ z → elim z as (λ y. Bool) [ true ↦ true | false ↦ zero_in j os ] ≡ true → (zero_in j os ≡ true → 1 ≤ tally (joins_of j) os) →
        1 ≤ tally (joins_of j) (Order.join k zero ∷ os)
    go true q e r = omega (arith, same_is j k 1 (eqb_equal j k q))
    go false q e r = omega (arith, r e)
zero_there j (Order.join k (suc c) ∷ os) e = omega (arith, zero_there j os e)
zero_there j (Order.exit p k ∷ os) e = omega (arith, zero_there j os e)
zero_there j (Order.whole p k ∷ os) e = omega (arith, zero_there j os e)
zero_there j (Order.sleep ∷ os) e = omega (arith, zero_there j os e)
zero_there j (Order.bingo ∷ os) e = omega (arith, zero_there j os e)

-- the JOINs numbered j in a unit's list
abbrev holds : ℕ → UnitState → ℕ
holds j x = tally (joins_of j) x.list

arrive_wakes : (j : ℕ) (x : UnitState) → order_of (arrive j x) ≤ order_of x + holds j x
unfolding arrive order_of
arrive_wakes j x = go (zero_in j (fall j x.list)) refl
  where
    go : (z : Bool) → zero_in j (fall j x.list) ≡ z →
        order_of (elim z as (λ y. UnitState) [ true ↦ unit_state true (fall j x.list) | false ↦ unit_state x.busy (fall j x.list) ]) ≤ order_of x + holds j x
    go true e = omega (arith, zero_there j (fall j x.list) e, fall_tally (joins_of j) (λ i n. unfold joins_of in refl) j x.list)
    go false e = omega arith

map_wakes : (j : ℕ) (xs : List UnitState) → awake (map (arrive j) xs) ≤ awake xs + over_units (holds j) xs
unfolding over_units
map_wakes j [] = omega arith
map_wakes j (x ∷ xs) = omega (arith, arrive_wakes j x, map_wakes j xs)

module _ (μ : Order → ℕ) where
  -- what the blocks of the units from k up count
  unfoldable from : ℕ → List Block → ℕ
  from k [] = 0
  from k (b ∷ bs) = elim (ltb b.label.owner k) [ true ↦ from k bs | false ↦ over μ b + from k bs ]

  from_below : (k : ℕ) (b : Block) (bs : List Block) → b.label.owner < k → from k (b ∷ bs) ≡ from k bs
  unfolding from
  from_below k b bs h = elim (ltb_cases b.label.owner k) [ inl p ↦ rw (p.0, from) | inr p ↦ absurd (omega (arith, p.1)) ]

  from_above : (k : ℕ) (b : Block) (bs : List Block) → k ≤ b.label.owner → from k (b ∷ bs) ≡ over μ b + from k bs
  unfolding from
  from_above k b bs h = elim (ltb_cases b.label.owner k) [ inl p ↦ absurd (omega (arith, p.1)) | inr p ↦ rw (p.0, from) ]

  from_le : (k : ℕ) (bs : List Block) → from k bs ≤ sum (over μ) bs
  unfolding from sum
  from_le k [] = omega arith
  from_le k (b ∷ bs) =
      elim (ltb_cases b.label.owner k) [
        | inl p ↦ omega (arith, from_below k b bs p.1, from_le k bs)
        | inr p ↦ omega (arith, from_above k b bs p.1, from_le k bs)
      ]

  -- unit k, and those above it
  from_next : (k : ℕ) (bs : List Block) → tally μ (blocks_of k bs) + from (suc k) bs ≤ from k bs
  unfolding from
  from_next k [] = rw (blocks_none k) (unfold tally in omega arith)
  from_next k (b ∷ bs) =
      elim (eqb_cases k b.label.owner) [
        | inl p ↦
            (let z = p.1 in
            rw (blocks_same k b bs z)
            (omega (arith, tally_append μ b.list (blocks_of k bs), from_above k b bs (omega arith), from_below (suc k) b bs (omega arith), from_next k bs)))
        | inr p ↦
            rw (blocks_other k b bs p.1)
            (elim (ltb_cases b.label.owner k) [
              | inl q ↦ omega (arith, from_below k b bs q.1, from_below (suc k) b bs (omega (arith, q.1)), from_next k bs)
              | inr q ↦ (let z = p.1 in omega (arith, from_above k b bs q.1, from_above (suc k) b bs (omega (arith, q.1)), from_next k bs))
            ])
      ]

  -- over all units, at most what the blocks count
  units_from : (bs : List Block) (k : ℕ) (xs : List UnitState) → ((i : ℕ) → tally μ (unit xs i).list ≤ tally μ (blocks_of (k + i) bs)) →
      over_units (λ x. tally μ x.list) xs ≤ from k bs
  unfolding over_units
  units_from bs k [] h = omega arith
  units_from bs k (x ∷ xs) h =
      let e : k + 0 ≡ k = omega arith in
      let h₀ : tally μ x.list ≤ tally μ (blocks_of k bs) = subst (λ (z : ℕ). tally μ x.list ≤ tally μ (blocks_of z bs)) e (h 0) in
      let r = units_from bs (suc k) xs (λ i. let q : k + suc i ≡ suc k + i = omega arith in subst (λ (z : ℕ). tally μ (unit xs i).list ≤ tally μ (blocks_of z bs)) q (h (suc i))) in
      omega (arith, h₀, r, from_next k bs)

joins_once_over : (B : Book) (L : Limits) (s : State) (D : Ghost) (bs : List Block) → Inv B L s D bs → (j : ℕ) → over_units (holds j) s.units ≤ 1
unfolding list_of
joins_once_over B L s D bs inv j =
    omega (
      arith,
      inv.once j,
      from_le (joins_of j) 0 bs,
      units_from (joins_of j) bs 0 s.units
          (λ i.
          let e : 0 + i ≡ i = omega arith in
          rw e
          (omega (arith, ap (tally (joins_of j)) (inv.fits i).0, tally_append (joins_of j) (blocks_of i bs) (bottom i), bottom_tally j i))),
    )

-- ONE ENTRY

-- a unit has become idle
unfoldable pub rests : Event → ℕ
rests Event.idled = 0
rests Event.visited = 0
rests (Event.forked p j) = 0
rests Event.kept = 0
rests (Event.passed j) = 0
rests Event.waited = 1
rests (Event.exited p j) = 0
rests Event.missed = 0
rests Event.rewrote = 0
rests Event.slept = 1

abbrev pub Wakes : State → Event → State → Type 0
Wakes s ev s' = awake s'.units + rests ev ≤ awake s.units + (placed_by one ev + left_by one ev)

abbrev pub WakesAfter : State → Outcome → Type 0
WakesAfter s (going ev s') = Wakes s ev s'
WakesAfter s (ended e s') = Unit {0}

module _ (G : Grant) (B : Book) (L : Limits) (u : ℕ) (s : State) (D : Ghost) (bs : List Block) (inv : Inv B L s D bs) where
  module _ (bz : (unit s.units u).busy ≡ true) (os : List Order) where
    -- the unit stays busy, or not
    same_awake : (rs : List Order) → awake (put s.units u (unit_state true rs)) ≡ awake s.units
    unfolding order_of
    same_awake rs = omega (arith, put_units order_of s.units u (unit_state true rs) (busy_in s.units u bz), busy_counts (unit s.units u) bz)

    less_awake : (rs : List Order) → awake (put s.units u (unit_state false rs)) + 1 ≡ awake s.units
    unfolding order_of
    less_awake rs = omega (arith, put_units order_of s.units u (unit_state false rs) (busy_in s.units u bz), busy_counts (unit s.units u) bz)

    fork_wakes : (p : Position) (j : ℕ) (x : Option ℕ) → WakesAfter s (do_fork B L u s os p j x)
    unfolding do_fork rests placed_by left_by
    fork_wakes p j none = omega (arith, same_awake (Order.visit p ∷ fall j os))
    fork_wakes p j (some v) =
        let rs = Order.visit p ∷ Order.exit p j ∷ (unit s.units v).list in
        omega (arith, same_awake os, put_most order_of (put s.units u (unit_state true os)) v (unit_state true rs), at_most_one (unit_state true rs))

    join_wakes : (j c : ℕ) → WakesAfter s (do_join B L u s os j c)
    unfolding do_join rests placed_by left_by
    join_wakes j zero = omega (arith, same_awake os)
    join_wakes j (suc c) = omega (arith, less_awake (Order.join j (suc c) ∷ os))

    exit_wakes : (p : Position) (j : ℕ) → (unit s.units u).list ≡ Order.exit p j ∷ os → WakesAfter s (do_exit B L u s os p j)
    unfolding do_exit rests placed_by left_by
    exit_wakes p j e =
        let q : holds j (unit s.units u) ≡ tally (joins_of j) os = ap (tally (joins_of j)) e ∙ (unfold tally joins_of in omega arith) in
        omega (
          arith,
          same_awake os,
          map_wakes j (put s.units u (unit_state true os)),
          put_units (holds j) s.units u (unit_state true os) (busy_in s.units u bz),
          q,
          joins_once_over B L s D bs inv j,
        )

    rewrite_wakes : (p : Position) (k : ℕ) (r : Marked) (spent full : Bool) → WakesAfter s (do_rewrite B L u s os p k r spent full)
    unfolding do_rewrite rests placed_by left_by
    rewrite_wakes p k r true full = tt
    rewrite_wakes p k r false true = tt
    rewrite_wakes p k r false false = omega (arith, same_awake (Order.visit p ∷ drop k os))

    whole_wakes : (p : Position) (k : ℕ) (x : Option Marked) → WakesAfter s (do_whole B L u s os p k x)
    unfolding do_whole rests placed_by left_by
    whole_wakes p k none = omega (arith, same_awake os)
    whole_wakes p k (some r) = rewrite_wakes p k r (eqb s.rewrites L.budget) (exceeds L.symbols (size (replace p r s.term)))

    order_wakes : (o : Order) → (unit s.units u).list ≡ o ∷ os → WakesAfter s (carry_out_by G B L u s os o)
    unfolding carry_out_by do_visit rests placed_by left_by
    order_wakes (Order.visit p) e = omega (arith, same_awake (orders s.joins p (to_do B (subterm p s.term)) ++ os))
    order_wakes (Order.fork p j) e = fork_wakes p j (G s)
    order_wakes (Order.join j c) e = join_wakes j c
    order_wakes (Order.exit p j) e = exit_wakes p j e
    order_wakes (Order.whole p k) e = whole_wakes p k (rewrite_over cells B.rules (subterm p s.term))
    order_wakes Order.sleep e = omega (arith, less_awake (Order.sleep ∷ os))
    order_wakes Order.bingo e = tt

  pub entry_wakes : WakesAfter s (entry_by G B L u s)
  unfolding entry_by turn_by rests placed_by left_by
  entry_wakes = go (unit s.units u).busy refl (unit s.units u).list refl
    where
      go : (z : Bool) → (unit s.units u).busy ≡ z → (os : List Order) → (unit s.units u).list ≡ os → WakesAfter s (turn_by G B L u s z os)
      go false e os q = omega arith
      go true e [] q = omega arith
      go true e (o ∷ os) q = order_wakes e os o q
