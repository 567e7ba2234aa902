-- A state that meets the rules, with positions for its stacks and tables for its symbols, has the paper's invariant: its term with its marks, its units' lists, a
-- queue by its ranks, the ghost term of its tables. Assumes nothing.
use mathlib.Core.Bool.{Bool, false, true≢false}
use mathlib.Core.List.{List, [], ◌∷◌, ◌++◌, map, map-append, append_assoc}
use mathlib.Core.Logic.{inl, inr}
use mathlib.Core.Option.{none}
use mathlib.Core.Path.{◌≡◌, refl, sym, ◌∙◌, ap, ap₂, subst}
use Prim.Native.Nat.{ℕ, zero, suc, ◌+◌, ◌<◌, ◌≤◌}
use native.Mathlib.Omega.{arith}
use lib.ListN.{get_or, length, length-append, drop}
use Rattle.paper.specs.Tree.{node, Forest, nil, cons, preorder, preorders, size, sizes, relabel, relabels, Correct, Position, subterm}
use Rattle.paper.specs.Strategy.{Step}
use Rattle.paper.specs.Book.{Term, Book, arity, steps}
use Rattle.paper.specs.Marks.{Cell, Marked, plain}
use Rattle.paper.specs.Machine.{Order, orders, UnitState, Limits, exceeds, numbers_from}
use Rattle.paper.specs.Sound.{Sound}
use Rattle.paper.proofs.Ghost.{Ghost}
use Rattle.paper.proofs.Invariant.{Inv, root_label}
use Rattle.paper.proofs.Marks.{arities, plain_correct}
use Rattle.paper.proofs.Numbers.{tally, over, joins_of, mentions_of, same_is, other_is}
use Rattle.paper.proofs.Stack
use Rattle.paper.proofs.Stack.{Labels, Owned, owners, Fits, Waiting}
use Rattle.paper.proofs.Tests.{eqb_cases}
use Rattle.paper.proofs.Trees.{size_preorder}
use Rattle.paper.proofs.View.{Block, sum}
use Rattle.flat.specs.Sizes
use Rattle.flat.specs.Machine as Flat
use Rattle.flat.specs.Machine.{Frame, FlatUnit, FlatState}
use Rattle.flat.specs.Rules.{AtJoin, upto, Waits, stack}
use Rattle.flat.specs.Relation.{offset, recount, Placed, PlacedUnit, at, busy, list_of, unit_state_of, frame_of, stack_of, unit_of, GoodFrames, marks_of}
use Rattle.flat.specs.Meets.{Meets}
use Rattle.flat.proofs.Lists.{upto_same, lists_all}
use Rattle.flat.proofs.Marks.{plain_size}
use Rattle.flat.proofs.Offsets.{symbol_at}
use Rattle.flat.proofs.Queued.{queue_of, queue_ranked, queue_right}
use Rattle.flat.proofs.Rebuilt.{dress, dresses, ghost, erase_ghost, well_tree, blocks, chain, under, unit_list, blocks_list, blocks_same, blocks_sorted, blocks_owned, blocks_owners}
use Rattle.flat.proofs.Relation.{Tally, paper_state, flat_of, flat_state, Good}
use Rattle.flat.proofs.Course.{FlatInv, flat_inv}
use Rattle.flat.proofs.Sizes.{term_sizes}
use Rattle.flat.proofs.Stacks.{map_length, unit_state_at, unit_at}
use Rattle.flat.proofs.Steps.{Settled}
use Rattle.flat.proofs.Tables.{Pending, joins_at, mentions_at, Tabled}

-- A TERM WITH MARKS AT ITS OFFSETS

module _ (M : ℕ → Bool) where
  mutual
    unfolding dress plain relabel

    pub plain_dress : (a : ℕ) (x : Term) → plain (dress M a x) ≡ x
    plain_dress a (node o ts) = ap (node o) (plain_dresses (suc a) ts)

    plain_dresses : (a : ℕ) (ts : Forest ℕ) → relabels (λ (c : Cell). c.operator) (dresses M a ts) ≡ ts
    plain_dresses a nil = refl
    plain_dresses a (cons x xs) = ap₂ cons (plain_dress a x) (plain_dresses (a + size x) xs)

  numbers_append : (a m n : ℕ) → map M (numbers_from a (m + n)) ≡ map M (numbers_from a m) ++ map M (numbers_from (a + m) n)
  unfolding numbers_from
  numbers_append a zero n =
      let e : 0 + n ≡ n = omega arith in
      let f : a ≡ a + 0 = omega arith in
      ap₂ (λ (x y : ℕ). map M (numbers_from x y)) f e
  numbers_append a (suc m) n =
      let e : suc m + n ≡ suc (m + n) = omega arith in
      let f : suc a + m ≡ a + suc m = omega arith in
      ap (λ (y : ℕ). map M (numbers_from a y)) e
      ∙ ap (λ (z : List Bool). M a ∷ z) (numbers_append (suc a) m n ∙ ap (λ (x : ℕ). map M (numbers_from (suc a) m) ++ map M (numbers_from x n)) f)

  mutual
    unfolding dress size preorder numbers_from

    marks_dress : (a : ℕ) (x : Term) → marks_of (dress M a x) ≡ map M (numbers_from a (size x))
    marks_dress a (node o ts) = ap (λ (z : List Bool). M a ∷ z) (marks_dresses (suc a) ts)

    marks_dresses : (a : ℕ) (ts : Forest ℕ) → map (λ (c : Cell). c.marked) (preorders (dresses M a ts)) ≡ map M (numbers_from a (sizes ts))
    marks_dresses a nil = refl
    marks_dresses a (cons x xs) =
        map-append (λ (c : Cell). c.marked) (preorder (dress M a x)) (preorders (dresses M (a + size x) xs))
        ∙ ap₂ (λ (y z : List Bool). y ++ z) (marks_dress a x) (marks_dresses (a + size x) xs)
        ∙ sym (numbers_append a (size x) (sizes xs))

marks_there : (before ms : List Bool) → map (λ a. get_or (before ++ ms) a false) (numbers_from (length before) (length ms)) ≡ ms
unfolding numbers_from
marks_there before [] = refl
marks_there before (m ∷ ms) =
    ap₂ (λ (x : Bool) (z : List Bool). x ∷ z) (here before) (moved ∙ marks_there (before ++ (m ∷ [])) ms)
  where
    here : (before : List Bool) → get_or (before ++ (m ∷ ms)) (length before) false ≡ m
    here [] = refl
    here (x ∷ before) = here before

    moved : map (λ a. get_or (before ++ (m ∷ ms)) a false) (numbers_from (suc (length before)) (length ms))
        ≡ map (λ a. get_or ((before ++ (m ∷ [])) ++ ms) a false) (numbers_from (length (before ++ (m ∷ []))) (length ms))
    moved =
        ap₂ (λ (z : List Bool) (k : ℕ). map (λ a. get_or z a false) (numbers_from k (length ms))) (sym (append_assoc before (m ∷ []) ms))
        (let e = length-append before (m ∷ []) in omega (arith, e))

pub marks_are : (ms : List Bool) (t : Term) → length ms ≡ length (preorder t) → marks_of (dress (λ a. get_or ms a false) 0 t) ≡ ms
marks_are ms t e =
    marks_dress (λ a. get_or ms a false) 0 t ∙ ap (λ (k : ℕ). map (λ a. get_or ms a false) (numbers_from 0 k)) (size_preorder t ∙ sym e) ∙ marks_there [] ms

-- COUNTS BY NUMBER

pub joins_tally : (k : ℕ) (os : List Order) → joins_at k os ≡ tally (joins_of k) os
unfolding joins_at tally joins_of
joins_tally k [] = refl
joins_tally k (Order.visit p ∷ os) = omega (arith, joins_tally k os)
joins_tally k (Order.fork p j ∷ os) = omega (arith, joins_tally k os)
joins_tally k (Order.join j c ∷ os) =
    elim (eqb_cases k j) [
      | inl p ↦ rw (p.0, joins_at) (omega (arith, joins_tally k os, same_is k j 1 p.1))
      | inr p ↦ rw (p.0, joins_at) (omega (arith, joins_tally k os, other_is k j 1 p.1))
    ]
joins_tally k (Order.exit p j ∷ os) = omega (arith, joins_tally k os)
joins_tally k (Order.whole p n ∷ os) = omega (arith, joins_tally k os)
joins_tally k (Order.sleep ∷ os) = omega (arith, joins_tally k os)
joins_tally k (Order.bingo ∷ os) = omega (arith, joins_tally k os)

pub mentions_tally : (k : ℕ) (os : List Order) → mentions_at k os ≡ tally (mentions_of k) os
unfolding mentions_at tally mentions_of
mentions_tally k [] = refl
mentions_tally k (Order.visit p ∷ os) = omega (arith, mentions_tally k os)
mentions_tally k (Order.fork p j ∷ os) =
    elim (eqb_cases k j) [
      | inl p ↦ rw (p.0, mentions_at) (omega (arith, mentions_tally k os, same_is k j 1 p.1))
      | inr p ↦ rw (p.0, mentions_at) (omega (arith, mentions_tally k os, other_is k j 1 p.1))
    ]
mentions_tally k (Order.join j c ∷ os) =
    elim (eqb_cases k j) [
      | inl p ↦ rw (p.0, mentions_at) (omega (arith, mentions_tally k os, same_is k j 1 p.1))
      | inr p ↦ rw (p.0, mentions_at) (omega (arith, mentions_tally k os, other_is k j 1 p.1))
    ]
mentions_tally k (Order.exit p j ∷ os) =
    elim (eqb_cases k j) [
      | inl p ↦ rw (p.0, mentions_at) (omega (arith, mentions_tally k os, same_is k j 1 p.1))
      | inr p ↦ rw (p.0, mentions_at) (omega (arith, mentions_tally k os, other_is k j 1 p.1))
    ]
mentions_tally k (Order.whole p n ∷ os) = omega (arith, mentions_tally k os)
mentions_tally k (Order.sleep ∷ os) = omega (arith, mentions_tally k os)
mentions_tally k (Order.bingo ∷ os) = omega (arith, mentions_tally k os)

-- AN IDLE UNIT WAITS

module _ (B : Book) (t : Term) where
  at_join_waiting : (j c : ℕ) (p : Position) (ss : List Step) (rs : List Order) → AtJoin ss → 0 < c → Waiting (orders j p (recount c ss) ++ rs)
  unfolding orders recount
  at_join_waiting j c p [] rs a l = absurd a
  at_join_waiting j c p (Step.visit i ∷ ss) rs a l = absurd a
  at_join_waiting j c p (Step.fork i ∷ ss) rs a l = absurd a
  at_join_waiting j zero p (Step.join d ∷ ss) rs a l = absurd (omega (arith, l))
  at_join_waiting j (suc c) p (Step.join d ∷ ss) rs a l = tt
  at_join_waiting j c p (Step.whole ∷ ss) rs a l = absurd a

  waits_waiting : (gs : List Placed) → GoodFrames B t gs → Waits B (preorder t) (stack_of t gs) → Waiting (list_of B gs)
  unfolding list_of frame_of
  waits_waiting [] g w = w
  waits_waiting (Placed.job p o zero c j ∷ gs) g w = absurd w
  waits_waiting (Placed.job p o (suc k) c j ∷ gs) g w =
      at_join_waiting j c p (drop k (steps B o)) (list_of B gs)
      (subst (λ (z : ℕ). AtJoin (drop k (steps B z))) (symbol_at p t g.0.0.0 ∙ g.0.0.1) w.0) w.1
  waits_waiting (Placed.exit v i q j ∷ gs) g w = absurd w
  waits_waiting (Placed.sleep ∷ gs) g w = tt
  waits_waiting (Placed.bingo ∷ gs) g w = absurd w

-- THE INVARIANT

module _ (B : Book) (sound : Sound B) (settled : Settled B) (L : Limits) (s : FlatState) (m : Meets B L s) (t : Term) (spelt : s.symbols ≡ preorder t) (U : List PlacedUnit)
    (stacks : s.units ≡ map (unit_of t) U) (good : Good B t U) (T : Tabled B t U s.placed) where
  M : ℕ → Bool
  M a = get_or s.marks a false

  abbrev w : Marked
  w = dress M 0 t

  plain_is : plain w ≡ t
  plain_is = plain_dress M 0 t

  marks_is : s.marks ≡ marks_of w
  unfolding M
  marks_is = sym (marks_are s.marks t (m.marks ∙ ap length spelt))

  abbrev n : Tally
  n = record {
    rewrites = s.rewrites;
    granted = s.granted;
    kept = s.kept;
    queue = queue_of s.units m.ranked m.once;
    placed = s.placed;
  }

  abbrev joins : ℕ
  joins = T.next

  abbrev D : Ghost
  D = ghost B M T.tables 0 t

  bs : List Block
  bs = blocks B sound settled M T.tables t good.correct T.symbol T.order

  is_flat : s ≡ flat_state w U n
  is_flat =
      ap₂ (λ (xs zs : List ℕ). record { symbols = xs; sizes = zs; marks = s.marks; units = s.units; rewrites = s.rewrites; granted = s.granted; kept = s.kept; placed = s.placed })
      spelt (m.sizes ∙ ap (Sizes.sizes (arity B)) spelt ∙ term_sizes (arity B) t good.correct)
      ∙ ap₂ (λ (ms : List Bool) (us : List FlatUnit). Flat.with_units (flat_of t ms U n) us) marks_is stacks
      ∙ ap (λ (x : Term). flat_of x (marks_of w) U n) (sym plain_is)

  stack_is : (v : ℕ) → stack s v ≡ stack_of t (at U v).frames
  stack_is v = ap (λ (us : List FlatUnit). (Flat.unit us v).stack) stacks ∙ ap (λ (x : FlatUnit). x.stack) (unit_at t U v)

  rank_is : (v : ℕ) → (Flat.unit s.units v).rank ≡ (at U v).rank
  rank_is v = ap (λ (us : List FlatUnit). (Flat.unit us v).rank) stacks ∙ ap (λ (x : FlatUnit). x.rank) (unit_at t U v)

  idle_some : (r : ℕ) → busy r ≡ false → 1 ≤ r
  idle_some zero e = absurd (true≢false e)
  idle_some (suc r) e = omega arith

  lists_are : (v : ℕ) → Stack.list_of v bs ≡ list_of B (at U v).frames
  unfolding bs
  lists_are v =
      blocks_list B sound settled M T.tables t good.correct T.symbol v T.order
      ∙ ap (λ (z : List Pending). chain B sound settled M T.tables t good.correct T.symbol z (under B sound settled M T.tables t good.correct T.symbol v)) (T.by_unit v)
      ∙ sym (unit_list B sound settled M T.tables t good.correct T.symbol v none (at U v).frames [] (T.stands v) (good.jobs v) refl)

  fit : Fits (map (unit_state_of B) U) bs
  fit v =
      subst (λ (x : UnitState). Stack.Fit x (Stack.list_of v bs)) (sym (unit_state_at B U v)) (
        sym (lists_are v),
        λ e. subst (λ (z : List Order). Waiting z) (sym (lists_are v))
            (waits_waiting B t (at U v).frames (good.jobs v)
            (subst (λ (z : List Frame). Waits B (preorder t) z) (stack_is v)
            (subst (λ (z : List ℕ). Waits B z (stack s v)) spelt (m.idle v (let a = idle_some (at U v).rank e in omega (arith, a, rank_is v)))))),
      )

  many : length s.units ≡ length U
  many = ap length stacks ∙ map_length (unit_of t) U

  owned : Labels (Owned (length U)) bs
  unfolding bs
  owned =
      blocks_owned B sound settled M T.tables t good.correct T.symbol (length U) T.order T.ordered T.found T.main.0 T.order
      (let a = m.some_unit in omega (arith, a, many)) T.ordered

  sums : (ψ : Order → ℕ) → ψ Order.sleep ≡ 0 → sum (over ψ) bs ≡ upto (λ v. tally ψ (list_of B (at U v).frames)) (length U)
  sums ψ z =
      sym (lists_all ψ z bs (length U) owned)
      ∙ upto_same (λ v. tally ψ (Stack.list_of v bs)) (λ v. tally ψ (list_of B (at U v).frames)) (length U) (λ v. ap (tally ψ) (lists_are v))

  once : (κ : ℕ) → sum (over (joins_of κ)) bs ≤ 1
  once κ =
      let a = sums (joins_of κ) (unfold joins_of in refl) in
      let b = upto_same (λ v. joins_at κ (list_of B (at U v).frames)) (λ v. tally (joins_of κ) (list_of B (at U v).frames)) (length U) (λ v. joins_tally κ (list_of B (at U v).frames)) in
      let c = T.once κ in
      omega (arith, a, b, c)

  fresh : (κ : ℕ) → joins ≤ κ → sum (over (mentions_of κ)) bs ≡ 0
  fresh κ l =
      sums (mentions_of κ) (unfold mentions_of in refl)
      ∙ upto_same (λ v. tally (mentions_of κ) (list_of B (at U v).frames)) (λ v. mentions_at κ (list_of B (at U v).frames)) (length U) (λ v. sym (mentions_tally κ (list_of B (at U v).frames)))
      ∙ T.fresh κ l

  placed_by : owners bs ≡ s.placed ++ (0 ∷ [])
  unfolding bs
  placed_by =
      blocks_owners B sound settled M T.tables t good.correct T.symbol T.order ∙ ap (λ (z : List ℕ). z ++ (0 ∷ [])) T.takers

  invariant : Inv B L (paper_state B w U n joins) D bs
  unfolding bs subterm offset
  invariant = record {
    is_term = sym (erase_ghost B M T.tables 0 t);
    correct = subst (Correct (arities B)) (sym (erase_ghost B M T.tables 0 t)) (plain_correct B w (subst (Correct (arity B)) (sym plain_is) good.correct));
    fits = fit;
    same = blocks_same B sound settled M T.tables t good.correct T.symbol (length U) T.order T.ordered T.found T.main.0;
    sorted = blocks_sorted B sound settled M T.tables t good.correct T.symbol (length U) T.order T.ordered T.found T.main.0 T.order T.ordered;
    owned = subst (λ (k : ℕ). Labels (Owned k) bs) (sym (map_length (unit_state_of B) U)) owned;
    well = well_tree B sound settled M T.tables t good.correct T.symbol t [] tt refl good.correct root_label (sym T.main.1);
    once = once;
    fresh = fresh;
    within = m.within;
    placed = placed_by;
  }

  pub tabled_inv : FlatInv B L s
  tabled_inv =
      flat_inv w U n joins D bs is_flat (subst (λ (x : Term). Good B x U) (sym plain_is) good) invariant
      (queue_ranked B t U s.units stacks m.ranked m.once) (queue_right B t U s.units stacks m.ranked m.once)
      (subst (λ (k : ℕ). exceeds L.symbols k ≡ false) (ap length spelt ∙ sym (size_preorder t) ∙ sym (ap size plain_is) ∙ plain_size w) m.short)
