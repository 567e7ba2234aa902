-- The EXITs of a reached state: a part that is lent isn't named again, is in the term, and shares its place with no other; where it is done, no order stands for
-- its term. So each EXIT has an argument of its JOIN's job to itself. Assumes nothing.
use mathlib.Core.List.{List, [], ◌∷◌, ◌++◌, map}
use mathlib.Core.Logic.{◌⊎◌, inl, inr, ◌≢◌}
use mathlib.Core.Option.{Option, none, some}
use mathlib.Core.Path.{◌≡◌, refl, sym, ◌∙◌, ap, ap₂, subst}
use Prim.Native.Nat.{ℕ, zero, suc, ◌+◌, ◌<◌, ◌≤◌}
use native.Mathlib.Omega.{arith}
use lib.ListN.{length, drop}
use Rattle.paper.specs.Tree.{arguments, count, Position, subterm, relabel, relabels}
use Rattle.paper.specs.Strategy.{Step}
use Rattle.paper.specs.Book.{Term, Book, arity, steps}
use Rattle.paper.specs.Marks.{Marked, plain}
use Rattle.paper.specs.Machine
use Rattle.paper.specs.Machine.{Order, orders, Limits}
use Rattle.paper.specs.Sound.{In, Unnamed, Sound}
use Rattle.paper.proofs.Ghost.{Label, own, lent, Ghost, rest, todo, work, Ghosts, gnil, gcons, erase, erases}
use Rattle.paper.proofs.Invariant.{Inv, root_label, all}
use Rattle.paper.proofs.Lists.{in_append}
use Rattle.paper.proofs.Numbers.{tally, over, tally_append, exits_of, list_exits}
use Rattle.paper.proofs.Stack
use Rattle.paper.proofs.Stack.{bottom, blocks_same, blocks_other, blocks_none, Top, top_none, top_some, top_of, list_none, list_top, in_mid, same_in}
use Rattle.paper.proofs.Tests.{eqb_cases, eqb_false, ltb_cases}
use Rattle.paper.proofs.View.{Block, block, list, parts, all_parts, sum}
use Rattle.flat.specs.Machine.{Frame}
use Rattle.flat.specs.Rules.{nth_frame, jobs, exits_to, upto}
use Rattle.flat.specs.Relation.{Valid, offset, Rooted, recount, Placed, PlacedUnit, at, orders_of, list_of, unit_state_of, frame_of, stack_of, GoodFrame}
use Rattle.flat.specs.Meets.{named}
use Rattle.flat.proofs.Alone.{rooted_of}
use Rattle.flat.proofs.Bounds.{is, is_same, is_most, upto_ones, upto_swap, load_all}
use Rattle.flat.proofs.Counts.{FrameAt, same_pair_is, same_pair_not}
use Rattle.flat.proofs.Exits.{exits_most, done_alone, ends, block_closed}
use Rattle.flat.proofs.Entry.{exit_listed}
use Rattle.flat.proofs.Heights.{is_equal}
use Rattle.flat.proofs.Lengths.{named_at, unnamed_none, named_once, named_sum}
use Rattle.flat.proofs.Lists.{upto_le, upto_same, upto_one, upto_two, upto_add, listed_most}
use Rattle.flat.proofs.Places.{stands, last_shows}
use Rattle.flat.proofs.Offsets.{correct_arguments, correct_subterm}
use Rattle.flat.proofs.Rebuilt.{Link, link_node}
use Rattle.flat.proofs.Relation.{Tally, paper_state, Good}
use Rattle.flat.proofs.Sites.{Site, site_frame, site_below, site_top, good_frame, frame_unique, same_last, no_longer, valid_last, holder_of, upto_some, on_exit, under_at}
use Rattle.flat.proofs.Rules.{placed_frame}
use Rattle.flat.proofs.Stacks.{list_at, stack_length}
use Rattle.flat.proofs.Steps.{Settled, shape_drop, within_drop, distinct_drop, recount_shape, recount_some}

-- WHAT A FRAME SHOWS OF A POSITION

-- an argument that is named shows in the orders
named_shows : (p : Position) (x j : ℕ) (ss : List Step) → Unnamed x ss ⊎ (1 ≤ tally (stands (is (p ++ (x ∷ [])))) (orders j p ss))
unfolding tally stands orders
named_shows p x j [] = inl tt
named_shows p x j (Step.visit i ∷ ss) =
    elim (eqb_cases x i) [
      | inl e ↦ inr (let z : is (p ++ (x ∷ [])) (p ++ (i ∷ [])) ≡ 1 = ap (λ (k : ℕ). is (p ++ (x ∷ [])) (p ++ (k ∷ []))) (sym e.1) ∙ is_same (p ++ (x ∷ [])) in omega (arith, z))
      | inr e ↦ elim (named_shows p x j ss) [ inl u ↦ inl (e.1, u) | inr l ↦ inr (omega (arith, l)) ]
    ]
named_shows p x j (Step.fork i ∷ ss) =
    elim (eqb_cases x i) [
      | inl e ↦ inr (let z : is (p ++ (x ∷ [])) (p ++ (i ∷ [])) ≡ 1 = ap (λ (k : ℕ). is (p ++ (x ∷ [])) (p ++ (k ∷ []))) (sym e.1) ∙ is_same (p ++ (x ∷ [])) in omega (arith, z))
      | inr e ↦ elim (named_shows p x j ss) [ inl u ↦ inl (e.1, u) | inr l ↦ inr (omega (arith, l)) ]
    ]
named_shows p x j (Step.join d ∷ ss) = elim (named_shows p x (suc j) ss) [ inl u ↦ inl u | inr l ↦ inr (omega (arith, l)) ]
named_shows p x j (Step.whole ∷ ss) = elim (named_shows p x j ss) [ inl u ↦ inl u | inr l ↦ inr (omega (arith, l)) ]

unnamed_back : (c x : ℕ) (ss : List Step) → Unnamed x (recount c ss) → Unnamed x ss
unfolding recount
unnamed_back c x [] h = h
unnamed_back c x (Step.visit i ∷ ss) h = (h.0, unnamed_back c x ss h.1)
unnamed_back c x (Step.fork i ∷ ss) h = (h.0, unnamed_back c x ss h.1)
unnamed_back c x (Step.join d ∷ ss) h = h
unnamed_back c x (Step.whole ∷ ss) h = unnamed_back c x ss h

module _ (B : Book) (q : Position) where
  abbrev shows : Placed → ℕ
  shows g = tally (stands (is q)) (orders_of B g)

  abbrev all_show : List Placed → ℕ
  all_show gs = tally (stands (is q)) (list_of B gs)

  show_cons : (g : Placed) (gs : List Placed) → all_show (g ∷ gs) ≡ shows g + all_show gs
  unfolding list_of
  show_cons g gs = tally_append (stands (is q)) (orders_of B g) (list_of B gs)

  show_one : (gs : List Placed) (i : ℕ) (g : Placed) → FrameAt gs i g → shows g ≤ all_show gs
  show_one [] i g h = absurd h
  show_one (x ∷ gs) i g (inl h) = omega (arith, show_cons x gs, ap shows h.1)
  show_one (x ∷ gs) i g (inr h) = omega (arith, show_cons x gs, show_one gs i g h)

  show_two : (gs : List Placed) (i i' : ℕ) (g g' : Placed) → i ≢ i' → FrameAt gs i g → FrameAt gs i' g' → shows g + shows g' ≤ all_show gs
  show_two [] i i' g g' ne h k = absurd h
  show_two (x ∷ gs) i i' g g' ne (inl h) (inl k) = absurd (ne (h.0 ∙ sym k.0))
  show_two (x ∷ gs) i i' g g' ne (inl h) (inr k) = omega (arith, show_cons x gs, ap shows h.1, show_one gs i' g' k)
  show_two (x ∷ gs) i i' g g' ne (inr h) (inl k) = omega (arith, show_cons x gs, ap shows k.1, show_one gs i g h)
  show_two (x ∷ gs) i i' g g' ne (inr h) (inr k) = omega (arith, show_cons x gs, show_two gs i i' g g' ne h k)

job_shows : (B : Book) → Settled B → (t : Term) (p : Position) (o k c j : ℕ) → GoodFrame B t (Placed.job p o k c j) → 1 ≤ tally (stands (is p)) (orders_of B (Placed.job p o k c j))
unfolding orders_of tally stands
job_shows B settled t p o zero c j g = let z = is_same p in omega (arith, z)
job_shows B settled t p o (suc k) c j g =
    let ss : List Step = drop k (steps B o) in
    let a = last_shows (is p) p j (recount c ss) (recount_shape c ss (shape_drop k (steps B o) (settled o))) (recount_some c ss g.1) in
    let z = is_same p in omega (arith, a, z)

-- EXITS ARE AT POSITIONS OF THE TERM

exit_of_list : (ψ : Position → ℕ → ℕ) (q : Position) (m : ℕ) (os : List Order) → In (Order.exit q m) os → ψ q m ≤ tally (exits_of ψ) os
unfolding tally exits_of
exit_of_list ψ q m [] h = absurd h
exit_of_list ψ q m (o ∷ os) (inl e) = let a = ap (exits_of ψ) e in omega (arith, a)
exit_of_list ψ q m (o ∷ os) (inr h) = omega (arith, exit_of_list ψ q m os h)

in_either : (o : Order) (xs ys : List Order) → In o (xs ++ ys) → In o xs ⊎ In o ys
in_either o [] ys h = inr h
in_either o (x ∷ xs) ys (inl e) = inl (inl e)
in_either o (x ∷ xs) ys (inr h) = elim (in_either o xs ys h) [ inl a ↦ inl (inr a) | inr a ↦ inr a ]

no_exit : (q : Position) (m : ℕ) (p : Position) (d : Ghost) → In (Order.exit q m) (list p d) → ⊥
no_exit q m p d h = let a = exit_of_list (λ r i. 1) q m (list p d) h in let b = list_exits (λ r i. 1) p d in omega (arith, a, b)

module _ (t : Term) where
  -- of a block: its EXITs
  abbrev Inside : Block → Type 0
  Inside b = (q : Position) (m : ℕ) → In (Order.exit q m) b.list → Valid q t

  lent_inside : (l : Label) (p : Position) (i j : ℕ) (d : Ghost) → Valid (p ++ (i ∷ [])) t → Inside (block l (list (p ++ (i ∷ [])) d ++ (Order.exit (p ++ (i ∷ [])) j ∷ [])))
  lent_inside l p i j d v q m h =
      elim (in_either (Order.exit q m) (list (p ++ (i ∷ [])) d) (Order.exit (p ++ (i ∷ [])) j ∷ []) h) [
        | inl a ↦ absurd (no_exit q m (p ++ (i ∷ [])) d a)
        | inr a ↦ one a
      ]
    where
      one : In (Order.exit q m) (Order.exit (p ++ (i ∷ [])) j ∷ []) → Valid q t
      one (inl e) = let a : p ++ (i ∷ []) ≡ q = cc in subst (λ (z : Position). Valid z t) a v
      one (inr e) = absurd e

  mutual
    unfolding parts erase plain relabel

    places : (d : Ghost) (p : Position) → Valid p t → subterm p t ≡ plain (erase d) → (b : Block) → In b (parts p d) → Inside b
    places (rest x) p v e b h = absurd h
    places (todo x) p v e b h = absurd h
    places (work o j ks ss) p v e b h = all_places ks p j 0 (suc (offset p t)) (link_node t p o.operator (relabels (λ c. c.operator) (erases ks)) v e) b h

    all_places : (ks : Ghosts) (p : Position) (j i c : ℕ) → Link t p i c (relabels (λ c. c.operator) (erases ks)) → (b : Block) → In b (all_parts p j i ks) → Inside b
    all_places gnil p j i c k b h = absurd h
    all_places (gcons own d ks) p j i c k b h =
        elim (in_append b (parts (p ++ (i ∷ [])) d) (all_parts p j (suc i) ks) h) [
          | inl m ↦ places d (p ++ (i ∷ [])) k.0 k.2 b m
          | inr m ↦ all_places ks p j (suc i) _ k.3 b m
        ]
    all_places (gcons (lent l) d ks) p j i c k b (inl e) = subst Inside (sym e) (lent_inside l p i j d k.0)
    all_places (gcons (lent l) d ks) p j i c k b (inr h) =
        elim (in_append b (parts (p ++ (i ∷ [])) d) (all_parts p j (suc i) ks) h) [
          | inl m ↦ places d (p ++ (i ∷ [])) k.0 k.2 b m
          | inr m ↦ all_places ks p j (suc i) _ k.3 b m
        ]

-- THE EXITS AT A POSITION

unfoldable exits_at : Position → List Placed → ℕ
unfolding is
exits_at P [] = 0
exits_at P (Placed.job p o k c m ∷ gs) = exits_at P gs
exits_at P (Placed.exit w i q m ∷ gs) = is P q + exits_at P gs
exits_at P (Placed.sleep ∷ gs) = exits_at P gs
exits_at P (Placed.bingo ∷ gs) = exits_at P gs

exits_listed : (B : Book) (P : Position) (gs : List Placed) → exits_at P gs ≤ tally (exits_of (λ r j. is P r)) (list_of B gs)
unfolding exits_at list_of orders_of tally exits_of
exits_listed B P [] = omega arith
exits_listed B P (Placed.job p o zero c m ∷ gs) = omega (arith, exits_listed B P gs)
exits_listed B P (Placed.job p o (suc k) c m ∷ gs) =
    let a = tally_append (exits_of (λ r j. is P r)) (orders m p (recount c (drop k (steps B o)))) (list_of B gs) in omega (arith, a, exits_listed B P gs)
exits_listed B P (Placed.exit w i q m ∷ gs) = omega (arith, exits_listed B P gs)
exits_listed B P (Placed.sleep ∷ gs) = omega (arith, exits_listed B P gs)
exits_listed B P (Placed.bingo ∷ gs) = omega (arith, exits_listed B P gs)

exit_there : (P : Position) (gs : List Placed) → 1 ≤ exits_at P gs → (w : ℕ) × (i : ℕ) × (m : ℕ) × In (Placed.exit w i P m) gs
unfolding exits_at
exit_there P [] l = absurd (omega (arith, l))
exit_there P (Placed.job p o k c m ∷ gs) l = let (w, i, r, h) = exit_there P gs l in (w, i, r, inr h)
exit_there P (Placed.exit w i q m ∷ gs) l =
    elim (ltb_cases 0 (is P q)) [
      | inl e ↦ (let z = e.1 in (w, i, m, inl (ap (λ (r : Position). Placed.exit w i r m) (is_equal P q (omega (arith, z))))))
      | inr e ↦ (let z = e.1 in let (w', i', r, h) = exit_there P gs (omega (arith, z, l)) in (w', i', r, inr h))
    ]
exit_there P (Placed.sleep ∷ gs) l = let (w, i, r, h) = exit_there P gs l in (w, i, r, inr h)
exit_there P (Placed.bingo ∷ gs) l = let (w, i, r, h) = exit_there P gs l in (w, i, r, inr h)

-- EXITs for a job are at its arguments
exits_spread : (t : Term) (p : Position) (n u i : ℕ) (gs : List Placed) → ((q : Position) (m : ℕ) → In (Placed.exit u i q m) gs → (x : ℕ) × (x < n) × (q ≡ p ++ (x ∷ []))) →
    exits_to u i (stack_of t gs) ≤ upto (λ x. exits_at (p ++ (x ∷ [])) gs) n
unfolding exits_at exits_to frame_of
exits_spread t p n u i [] h = omega arith
exits_spread t p n u i (Placed.job q o k c m ∷ gs) h = exits_spread t p n u i gs (λ q m a. h q m (inr a))
exits_spread t p n u i (Placed.exit w k q m ∷ gs) h =
    let a = upto_add (λ x. is (p ++ (x ∷ [])) q) (λ x. exits_at (p ++ (x ∷ [])) gs) n in
    let b = exits_spread t p n u i gs (λ q m a. h q m (inr a)) in
    elim (eqb_cases u w) [
      | inl e ↦
          elim (eqb_cases i k) [
            | inl f ↦
                (let (x, l, r) = h q m (inl (ap₂ (λ (y z : ℕ). Placed.exit y z q m) e.1 f.1)) in
                let c = upto_one (λ x. is (p ++ (x ∷ [])) q) x n l in
                let d : is (p ++ (x ∷ [])) q ≡ 1 = ap (is (p ++ (x ∷ []))) r ∙ is_same (p ++ (x ∷ [])) in
                omega (arith, a, b, c, d, same_pair_is u i w k e.1 f.1))
            | inr f ↦ omega (arith, a, b, same_pair_not u i w k (λ y z. f.1 z))
          ]
      | inr e ↦ omega (arith, a, b, same_pair_not u i w k (λ y z. e.1 y))
    ]
exits_spread t p n u i (Placed.sleep ∷ gs) h = exits_spread t p n u i gs (λ q m a. h q m (inr a))
exits_spread t p n u i (Placed.bingo ∷ gs) h = exits_spread t p n u i gs (λ q m a. h q m (inr a))

-- the job on a frame, if there is one
unfoldable job_is : Position → Placed → ℕ
unfolding is
job_is P (Placed.job q o k c m) = is P q
job_is P (Placed.exit w i q m) = 0
job_is P Placed.sleep = 0
job_is P Placed.bingo = 0

frame_beyond : (fs : List Frame) (i : ℕ) → length fs ≤ i → nth_frame i fs ≡ Frame.sleep
unfolding nth_frame
frame_beyond [] i l = refl
frame_beyond (f ∷ fs) i l = rw (eqb_false i (length fs) (λ e. omega (arith, e, l)), nth_frame) (frame_beyond fs i (omega (arith, l)))

above_frame : (t : Term) (gs : List Placed) (i : ℕ) → (g : Placed) × (nth_frame i (stack_of t gs) ≡ frame_of t g) × ((g ≡ Placed.sleep) ⊎ FrameAt gs i g)
unfolding frame_of
above_frame t gs i =
    elim (ltb_cases i (length gs)) [
      | inl p ↦ (let (g, f, e) = placed_frame t gs i p.1 in (g, e, inr f))
      | inr p ↦ (Placed.sleep, (let z = p.1 in frame_beyond (stack_of t gs) i (omega (arith, z, stack_length t gs))), inl refl)
    ]

-- OF A REACHED STATE

in_blocks : (o : Order) (v : ℕ) (bs : List Block) → In o (Stack.blocks_of v bs) → (b : Block) × In b bs × In o b.list
in_blocks o v [] h = absurd (subst (λ (z : List Order). In o z) (blocks_none v) h)
in_blocks o v (b ∷ bs) h =
    elim (eqb_cases v b.label.owner) [
      | inl p ↦
          elim (in_either o b.list (Stack.blocks_of v bs) (subst (λ (z : List Order). In o z) (blocks_same v b bs p.1) h)) [
            | inl a ↦ (b, inl refl, a)
            | inr a ↦ (let (c, m, k) = in_blocks o v bs a in (c, inr m, k))
          ]
      | inr p ↦ (let (c, m, k) = in_blocks o v bs (subst (λ (z : List Order). In o z) (blocks_other v b bs p.1) h) in (c, inr m, k))
    ]

module _ (B : Book) (sound : Sound B) (settled : Settled B) (L : Limits) (w : Marked) (U : List PlacedUnit) (good : Good B (plain w) U) (n : Tally) (j : ℕ) (D : Ghost)
    (bs : List Block) (inv : Inv B L (paper_state B w U n j) D bs) where
  abbrev t : Term
  t = plain w

  abbrev fr : ℕ → List Placed
  fr v = (at U v).frames

  block_inside : (b : Block) → In b bs → Inside t b
  block_inside b h = go (same_in bs (all D) inv.same b h)
    where
      root : Inside t (block root_label (list [] D ++ (Order.bingo ∷ [])))
      root q m h =
          elim (in_either (Order.exit q m) (list [] D) (Order.bingo ∷ []) h) [
            | inl a ↦ absurd (no_exit q m [] D a)
            | inr a ↦ absurd (none a)
          ]
        where
          none : In (Order.exit q m) (Order.bingo ∷ []) → ⊥
          none (inl e) = let z : ◌≡◌ {A = ℕ} 0 1 = cc in omega arith
          none (inr e) = e

      go : In b (all D) → Inside t b
      go (inl e) = subst (Inside t) (sym e) root
      go (inr m) = places t D [] tt (unfold subterm in ap plain inv.is_term) b m

  pub exit_valid : (v u i : ℕ) (q : Position) (m : ℕ) → In (Placed.exit u i q m) (fr v) → Valid q t
  unfolding Stack.list_of bottom
  exit_valid v u i q m h =
      let l : In (Order.exit q m) (Stack.blocks_of v bs ++ bottom v) =
      subst (λ (z : List Order). In (Order.exit q m) z) (sym (list_at B U v) ∙ (inv.fits v).0) (exit_listed B u i q m (fr v) h) in
      elim (in_either (Order.exit q m) (Stack.blocks_of v bs) (bottom v) l) [
        | inl a ↦ (let (b, ib, k) = in_blocks (Order.exit q m) v bs a in block_inside b ib q m k)
        | inr a ↦ absurd (none v a)
      ]
    where
      none : (v : ℕ) → In (Order.exit q m) (bottom v) → ⊥
      none zero h = h
      none (suc v) (inl e) = let z : ◌≡◌ {A = ℕ} 0 1 = cc in omega arith
      none (suc v) (inr h) = h

  -- NO TWO ORDERS FOR ONE TERM

  total : (q : Position) (m : ℕ) → upto (λ v. all_show B q (fr v)) m ≤ sum (over (stands (is q))) bs
  total q m =
      omega (
        arith,
        listed_most inv (stands (is q)) (unfold stands in refl) m,
        upto_same (λ v. all_show B q (fr v)) (λ v. tally (stands (is q)) (Machine.unit (map (unit_state_of B) U) v).list) m (λ v. ap (tally (stands (is q))) (sym (list_at B U v))),
      )

  clash : (q : Position) (v i : ℕ) (g : Placed) (v' i' : ℕ) (g' : Placed) → FrameAt (fr v) i g → FrameAt (fr v') i' g' → 1 ≤ shows B q g → 1 ≤ shows B q g' → (v ≡ v') × (i ≡ i')
  clash q v i g v' i' g' h k a b =
      elim (eqb_cases v v') [
        | inl e ↦
            elim (eqb_cases i i') [
              | inl f ↦ (e.1, f.1)
              | inr f ↦
                  absurd (
                  let k' : FrameAt (fr v) i' g' = subst (λ (z : ℕ). FrameAt (fr z) i' g') (sym e.1) k in
                  let x = show_two B q (fr v) i i' g g' f.1 h k' in
                  let y = upto_one (λ w. all_show B q (fr w)) v (suc v) (omega arith) in
                  let z = total q (suc v) in let r = load_all B settled L good n j D bs inv q in omega (arith, x, y, z, r, a, b)
                  )
            ]
        | inr e ↦
            absurd (
            let x = show_one B q (fr v) i g h in
            let x' = show_one B q (fr v') i' g' k in
            let y = upto_two (λ w. all_show B q (fr w)) v v' (suc (v + v')) e.1 (omega arith) (omega arith) in
            let z = total q (suc (v + v')) in let r = load_all B settled L good n j D bs inv q in omega (arith, x, x', y, z, r, a, b)
            )
      ]

  shows_at : (v i : ℕ) (p : Position) (o k c m : ℕ) → FrameAt (fr v) i (Placed.job p o k c m) → 1 ≤ shows B p (Placed.job p o k c m)
  shows_at v i p o k c m h = job_shows B settled t p o k c m (good_frame B t (fr v) i (Placed.job p o k c m) (good.jobs v) h)

  -- A PART THAT IS DONE

  done_block : (v : ℕ) (q : Position) (m : ℕ) (os : List Order) → Stack.list_of v bs ≡ Order.exit q m ∷ os → (x : Block) × In x bs × (x.list ≡ Order.exit q m ∷ [])
  unfolding bottom tally ends
  done_block v q m os e = go (top_of v bs)
    where
      bare_bottom : (v : ℕ) → bottom v ≡ Order.exit q m ∷ os → ⊥
      bare_bottom zero e = let z : ◌≡◌ {A = ℕ} 0 1 = cc in omega arith
      bare_bottom (suc v) e = let z : ◌≡◌ {A = ℕ} 0 1 = cc in omega arith

      first : (x : Block) (xs : List Order) (l : Order) (r : List Order) → x.list ≡ xs ++ (l ∷ []) → tally ends xs ≡ 0 → x.list ++ r ≡ Order.exit q m ∷ os → x.list ≡ Order.exit q m ∷ []
      first x [] l r a z b =
          let f : (l ∷ []) ++ r ≡ Order.exit q m ∷ os = ap (λ (y : List Order). y ++ r) (sym a) ∙ b in
          let h : l ≡ Order.exit q m = cc in a ∙ ap (λ (y : Order). y ∷ []) h
      first x (y ∷ xs) l r a z b =
          let f : ((y ∷ xs) ++ (l ∷ [])) ++ r ≡ Order.exit q m ∷ os = ap (λ (k : List Order). k ++ r) (sym a) ∙ b in
          let h : y ≡ Order.exit q m = cc in
          absurd (let s = ap ends h in omega (arith, z, s))

      go : Top v bs → (x : Block) × In x bs × (x.list ≡ Order.exit q m ∷ [])
      go (top_none f) = absurd (bare_bottom v (sym (list_none v bs f) ∙ e))
      go (top_some a x b eb ow f) =
          let ix : In x bs = subst (λ (z : List Block). In x z) (sym eb) (in_mid a x b) in
          let (l, ys, el, z) = block_closed D x (same_in bs (all D) inv.same x ix) in
          let r : x.list ++ Stack.list_of v b ≡ Order.exit q m ∷ os = sym (list_top v a x b ow f) ∙ ap (Stack.list_of v) (sym eb) ∙ e in
          (x, ix, first x ys l (Stack.list_of v b) el z r)

  done_none : (v u i : ℕ) (q : Position) (m : ℕ) (lo : List Placed) → Site none (fr v) none (Placed.exit u i q m) lo → sum (over (stands (is q))) bs ≡ 0
  unfolding list_of orders_of
  done_none v u i q m lo s =
      let e : Stack.list_of v bs ≡ Order.exit q m ∷ list_of B lo = sym (inv.fits v).0 ∙ list_at B U v ∙ ap (list_of B) (site_top (fr v) (Placed.exit u i q m) lo s) in
      let (x, h, l) = done_block v q m (list_of B lo) e in
      inv.same (over (stands (is q))) ∙ done_alone D inv.well x q m (same_in bs (all D) inv.same x h) l

  done_shows : (v u i : ℕ) (q : Position) (m : ℕ) (lo : List Placed) → Site none (fr v) none (Placed.exit u i q m) lo → (v' i' : ℕ) (g : Placed) → FrameAt (fr v') i' g → shows B q g ≡ 0
  done_shows v u i q m lo s v' i' g h =
      let a = show_one B q (fr v') i' g h in
      let b = upto_one (λ z. all_show B q (fr z)) v' (suc v') (omega arith) in
      let c = total q (suc v') in
      let d = done_none v u i q m lo s in
      omega (arith, a, b, c, d)

  -- A LENT ARGUMENT

  module _ (v i : ℕ) (p : Position) (o k c m : ℕ) (here : FrameAt (fr v) i (Placed.job p o (suc k) c m)) where
    abbrev J : Placed
    J = Placed.job p o (suc k) c m

    abbrev ss : List Step
    ss = drop k (steps B o)

    -- what shows of a lent part is its own job, on its EXIT
    lent_shows : (v' u y x r : ℕ) → In (Placed.exit u y (p ++ (x ∷ [])) r) (fr v') → (v₂ i₂ : ℕ) (g : Placed) → FrameAt (fr v₂) i₂ g → 1 ≤ shows B (p ++ (x ∷ [])) g →
        (o' : ℕ) × (k' : ℕ) × (c' : ℕ) × (r' : ℕ) × (lo : List Placed) × (g ≡ Placed.job (p ++ (x ∷ [])) o' k' c' r')
        × (i₂ ≡ suc (length lo)) × FrameAt (fr v₂) (length lo) (Placed.exit u y (p ++ (x ∷ [])) r)
    lent_shows v' u y x r h v₂ i₂ g f l =
        elim (on_exit B (fr v') (good.stacked v') u y (p ++ (x ∷ [])) r h) [
          | inl d ↦ absurd (let z = done_shows v' u y (p ++ (x ∷ [])) r d.0 d.1 v₂ i₂ g f in omega (arith, z, l))
          | inr d ↦ own d
        ]
      where
        q : Position
        q = p ++ (x ∷ [])

        own : (up : Option Placed) × (o' : ℕ) × (k' : ℕ) × (c' : ℕ) × (r' : ℕ) × (lo : List Placed) × Site none (fr v') up (Placed.job (p ++ (x ∷ [])) o' k' c' r') (Placed.exit u y (p ++ (x ∷ [])) r ∷ lo) →
            (o' : ℕ) × (k' : ℕ) × (c' : ℕ) × (r' : ℕ) × (lo : List Placed) × (g ≡ Placed.job (p ++ (x ∷ [])) o' k' c' r')
            × (i₂ ≡ suc (length lo)) × FrameAt (fr v₂) (length lo) (Placed.exit u y (p ++ (x ∷ [])) r)
        own (up, o', k', c', r', lo, s) =
            let E : Placed = Placed.exit u y (p ++ (x ∷ [])) r in
            let G : Placed = Placed.job (p ++ (x ∷ [])) o' k' c' r' in
            let f₁ = site_frame none (fr v') up G (E ∷ lo) s in
            let (a, b) = clash (p ++ (x ∷ [])) v₂ i₂ g v' (length (E ∷ lo)) G f f₁ l (shows_at v' (length (E ∷ lo)) (p ++ (x ∷ [])) o' k' c' r' f₁) in
            let f₂ : FrameAt (fr v₂) i₂ G = subst (λ (z : ℕ). FrameAt (fr z) i₂ G) (sym a) (subst (λ (z : ℕ). FrameAt (fr v') z G) (sym b) f₁) in
            let e₁ = site_frame none (fr v') (some G) E lo (site_below none (fr v') up G E lo s) in
            (o', k', c', r', lo, frame_unique (fr v₂) i₂ g G f f₂, b, subst (λ (z : ℕ). FrameAt (fr z) (length lo) E) (sym a) e₁)

    -- it isn't named again
    pub lent_unnamed : (v' u y x r : ℕ) → In (Placed.exit u y (p ++ (x ∷ [])) r) (fr v') → Unnamed x ss
    unfolding orders_of
    lent_unnamed v' u y x r h =
        elim (named_shows p x m (recount c ss)) [
          | inl a ↦ unnamed_back c x ss a
          | inr l ↦
              absurd (
              let (o', k', c', r', lo, e, a, f) = lent_shows v' u y x r h v i J here l in
              let z : p ≡ p ++ (x ∷ []) = cc in no_longer p x z
              )
        ]

    -- and no job of it stands on the job around it
    not_own : (v' u y x r : ℕ) → In (Placed.exit u y (p ++ (x ∷ [])) r) (fr v') → (o' k' c' r' : ℕ) → FrameAt (fr v) (suc i) (Placed.job (p ++ (x ∷ [])) o' k' c' r') → ⊥
    not_own v' u y x r h o' k' c' r' f =
        let G : Placed = Placed.job (p ++ (x ∷ [])) o' k' c' r' in
        let (o₂, k₂, c₂, r₂, lo, e, a, f₂) = lent_shows v' u y x r h v (suc i) G f (shows_at v (suc i) (p ++ (x ∷ [])) o' k' c' r' f) in
        let b : length lo ≡ i = omega (arith, a) in
        let e₂ : J ≡ Placed.exit u y (p ++ (x ∷ [])) r = frame_unique (fr v) i J (Placed.exit u y (p ++ (x ∷ [])) r) here (subst (λ (z : ℕ). FrameAt (fr v) z (Placed.exit u y (p ++ (x ∷ [])) r)) b f₂) in
        let z : ◌≡◌ {A = ℕ} 0 1 = cc in omega arith

    -- ROOM FOR EACH EXIT

    abbrev many : ℕ
    many = arity B o

    root_is : Rooted o p t
    root_is = rooted_of B t p o (suc k) c m (good_frame B t (fr v) i J (good.jobs v) here)

    wide : count (arguments (subterm p t)) ≡ many
    wide = (correct_arguments (arity B) (subterm p t) (correct_subterm (arity B) p t root_is.0 good.correct)).0 ∙ ap (arity B) root_is.1

    lent_here : ℕ → ℕ
    lent_here x = upto (λ u. exits_at (p ++ (x ∷ [])) (fr u)) (length U)

    lent_once : (x : ℕ) → lent_here x ≤ 1
    unfolding lent_here
    lent_once x =
        let P : Position = p ++ (x ∷ []) in
        let ψ : Order → ℕ = exits_of (λ r z. is P r) in
        let a = upto_le (λ u. exits_at P (fr u)) (λ u. tally ψ (Machine.unit (map (unit_state_of B) U) u).list) (length U)
        (λ u. (let b = exits_listed B P (fr u) in let d = ap (tally ψ) (list_at B U u) in omega (arith, b, d))) in
        omega (arith, a, listed_most inv ψ (unfold exits_of in refl) (length U), inv.same (over ψ), exits_most P D)

    lent_some : (x : ℕ) → 1 ≤ lent_here x → (v' : ℕ) × (u : ℕ) × (y : ℕ) × (r : ℕ) × In (Placed.exit u y (p ++ (x ∷ [])) r) (fr v')
    unfolding lent_here
    lent_some x l =
        let (v', a) = upto_some (λ u. exits_at (p ++ (x ∷ [])) (fr u)) (length U) l in
        let (u, y, r, h) = exit_there (p ++ (x ∷ [])) (fr v') a in (v', u, y, r, h)

    lent_spread : upto (λ u. exits_to v i (stack_of t (fr u))) (length U) ≤ upto lent_here many
    unfolding lent_here
    lent_spread =
        let a = upto_le (λ u. exits_to v i (stack_of t (fr u))) (λ u. upto (λ x. exits_at (p ++ (x ∷ [])) (fr u)) many) (length U) (λ u. exits_spread t p many v i (fr u) (λ q r h. ours u q r h)) in
        omega (arith, a, upto_swap (λ u x. exits_at (p ++ (x ∷ [])) (fr u)) (length U) many)
      where
        ours : (u : ℕ) (q : Position) (r : ℕ) → In (Placed.exit v i q r) (fr u) → (x : ℕ) × (x < many) × (q ≡ p ++ (x ∷ []))
        ours u q r h =
            let (p', o', k', c', x, f, g, e) = holder_of B (fr v) i r q (good.exits u v i q r h).1 in
            let eq = frame_unique (fr v) i J (Placed.job p' o' (suc k') c' r) here f in
            let pp : p ≡ p' = cc in
            let qx : q ≡ p ++ (x ∷ []) = e ∙ ap (λ (z : Position). z ++ (x ∷ [])) (sym pp) in
            let a = valid_last p x t (subst (λ (z : Position). Valid z t) qx (exit_valid u v i q r h)) in
            (x, omega (arith, a, wide), qx)

    module _ (g : Placed) (on : (g ≡ Placed.sleep) ⊎ FrameAt (fr v) (suc i) g) where
      on_job : (x o' k' c' r' : ℕ) (q : Position) → g ≡ Placed.job q o' k' c' r' → p ++ (x ∷ []) ≡ q → FrameAt (fr v) (suc i) (Placed.job (p ++ (x ∷ [])) o' k' c' r')
      on_job x o' k' c' r' q e d =
          elim on [
            | inl a ↦ absurd (let z : ◌≡◌ {A = ℕ} 0 1 = cc in omega arith)
            | inr f ↦ subst (λ (z : Placed). FrameAt (fr v) (suc i) z) (e ∙ ap (λ (z : Position). Placed.job z o' k' c' r') (sym d)) f
          ]

      job_is_some : (g' : Placed) (x : ℕ) → 1 ≤ job_is (p ++ (x ∷ [])) g' → (o' : ℕ) × (k' : ℕ) × (c' : ℕ) × (r' : ℕ) × (q : Position) × (g' ≡ Placed.job q o' k' c' r') × (p ++ (x ∷ []) ≡ q)
      unfolding job_is
      job_is_some (Placed.job q o' k' c' r') x l = (o', k', c', r', q, refl, is_equal (p ++ (x ∷ [])) q l)
      job_is_some (Placed.exit u y q r) x l = absurd (omega (arith, l))
      job_is_some Placed.sleep x l = absurd (omega (arith, l))
      job_is_some Placed.bingo x l = absurd (omega (arith, l))

      job_is_most : (g' : Placed) (x : ℕ) → job_is (p ++ (x ∷ [])) g' ≤ 1
      unfolding job_is
      job_is_most (Placed.job q o' k' c' r') x = is_most (p ++ (x ∷ [])) q
      job_is_most (Placed.exit u y q r) x = omega arith
      job_is_most Placed.sleep x = omega arith
      job_is_most Placed.bingo x = omega arith

      own_unnamed : (x : ℕ) → 1 ≤ job_is (p ++ (x ∷ [])) g → Unnamed x ss
      own_unnamed x l =
          let (o', k', c', r', q, e, d) = job_is_some g x l in
          let (lo, un) = under_at B (fr v) (good.stacked v) i (p ++ (x ∷ [])) o' k' c' r' J (on_job x o' k' c' r' q e d) here in
          let (y, f, a) = un in
          subst (λ (z : ℕ). Unnamed z ss) (sym (same_last p p x y f)) a

      each : (x : ℕ) → named_at x ss + job_is (p ++ (x ∷ [])) g + lent_here x ≤ 1
      each x =
          elim (ltb_cases 0 (lent_here x)) [
            | inl a ↦
                (let z = a.1 in
                let (v', u, y, r, h) = lent_some x (omega (arith, z)) in
                let b = unnamed_none x ss (lent_unnamed v' u y x r h) in
                elim (ltb_cases 0 (job_is (p ++ (x ∷ [])) g)) [
                  | inl f ↦
                      absurd (
                      let s = f.1 in
                      let (o', k', c', r', q, e, d) = job_is_some g x (omega (arith, s)) in not_own v' u y x r h o' k' c' r' (on_job x o' k' c' r' q e d)
                      )
                  | inr f ↦ (let s = f.1 in omega (arith, b, s, lent_once x))
                ])
            | inr a ↦
                (let z = a.1 in
                elim (ltb_cases 0 (job_is (p ++ (x ∷ [])) g)) [
                  | inl f ↦ (let s = f.1 in omega (arith, z, unnamed_none x ss (own_unnamed x (omega (arith, s))), job_is_most g x))
                  | inr f ↦ (let s = f.1 in omega (arith, z, s, named_once x ss (distinct_drop k (steps B o) (sound.distinct o))))
                ])
          ]

      own_spread : (g' : Placed) → g ≡ g' → jobs (frame_of t g' ∷ []) ≤ upto (λ x. job_is (p ++ (x ∷ [])) g') many
      unfolding jobs frame_of job_is
      own_spread (Placed.job q o' k' c' r') e =
          elim on [
            | inl a ↦ absurd (let z : ◌≡◌ {A = ℕ} 0 1 = cc in omega arith)
            | inr f ↦
                (let f₂ : FrameAt (fr v) (suc i) (Placed.job q o' k' c' r') = subst (λ (z : Placed). FrameAt (fr v) (suc i) z) e f in
                let (lo, un) = under_at B (fr v) (good.stacked v) i q o' k' c' r' J f₂ here in
                let (x, d, a) = un in
                let vq : Valid q t = (rooted_of B t q o' k' c' r' (good_frame B t (fr v) (suc i) (Placed.job q o' k' c' r') (good.jobs v) f₂)).0 in
                let l = valid_last p x t (subst (λ (z : Position). Valid z t) d vq) in
                let b = upto_one (λ y. is (p ++ (y ∷ [])) q) x many (omega (arith, l, wide)) in
                let s : is (p ++ (x ∷ [])) q ≡ 1 = ap (is (p ++ (x ∷ []))) d ∙ is_same (p ++ (x ∷ [])) in omega (arith, b, s))
          ]
      own_spread (Placed.exit u y q r) e = omega arith
      own_spread Placed.sleep e = omega arith
      own_spread Placed.bingo e = omega arith

      fits_in : named ss + jobs (frame_of t g ∷ []) + upto (λ u. exits_to v i (stack_of t (fr u))) (length U) ≤ many
      fits_in =
          omega (
            arith,
            named_sum many ss (within_drop many k (steps B o) (sound.within o)),
            own_spread g refl,
            lent_spread,
            upto_add (λ x. named_at x ss + job_is (p ++ (x ∷ [])) g) lent_here many,
            upto_add (λ x. named_at x ss) (λ x. job_is (p ++ (x ∷ [])) g) many,
            upto_ones (λ x. named_at x ss + job_is (p ++ (x ∷ [])) g + lent_here x) many each,
          )

    pub room_is : named ss + jobs (nth_frame (suc i) (stack_of t (fr v)) ∷ []) + upto (λ u. exits_to v i (stack_of t (fr u))) (length U) ≤ many
    room_is =
        let (g, e, on) = above_frame t (fr v) (suc i) in
        subst (λ (f : Frame). named ss + jobs (f ∷ []) + upto (λ u. exits_to v i (stack_of t (fr u))) (length U) ≤ many) (sym e) (fits_in g on)
