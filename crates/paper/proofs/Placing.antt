-- In every state of a run the pending parts stand in the order in which they were placed, each later than the part that forked it: the order of the blocks'
-- stamps. Assumes nothing.
use mathlib.Core.Bool.{true, false}
use mathlib.Core.List.{List, [], ◌∷◌, ◌++◌, append_assoc, head-eq_of_cons-eq, tail-eq_of_cons-eq}
use mathlib.Core.Logic.{◌⊎◌, inl, inr}
use mathlib.Core.Path.{◌≡◌, refl, sym, ◌∙◌, ap, subst}
use Prim.Native.Nat.{ℕ, zero, suc, ◌+◌, ◌<◌, ◌≤◌}
use native.Mathlib.Omega.{arith}
use lib.Dec.{ltb}
use Rattle.paper.specs.Tree.{Position, Correct}
use Rattle.paper.specs.Strategy.{Step}
use Rattle.paper.specs.Book.{Term, Book, arity}
use Rattle.paper.specs.Machine.{Order, orders, unit, State, Limits, Grant, start}
use Rattle.paper.specs.Run.{moments_by}
use Rattle.paper.specs.Sound.{In, All, Sound}
use Rattle.paper.specs.Demand3.{Throughout}
use Rattle.paper.specs.Idle.{times, OnlyIdle}
use Rattle.paper.specs.Placing.{exits_in, PendingPart, PlacedInOrder}
use Rattle.paper.proofs.Course.{course_states}
use Rattle.paper.proofs.Demand3.{whole_course}
use Rattle.paper.proofs.Ghost.{Label, own, Ghost, Ghosts, gcons}
use Rattle.paper.proofs.Invariant.{root_label, all, Inv}
use Rattle.paper.proofs.Lists.{all_map, all_of, all_in, all_split, in_append}
use Rattle.paper.proofs.Local.{blocks_tally}
use Rattle.paper.proofs.Numbers.{tally, over, tally_append, if_same, same_is, other_is, joins_of, exits_of, joins_there, list_exits}
use Rattle.paper.proofs.Queue.{times_cons}
use Rattle.paper.proofs.Stack.{same_in, in_mid, bottom, blocks_of, list_of, blocks_same, blocks_other, blocks_none, blocks_append, list_append, list_same, Under, labels_in, Sorted, owners}
use Rattle.paper.proofs.Tests.{eqb_cases, ltb_cases}
use Rattle.paper.proofs.View.{Block, block, list, lists, parts, all_parts, sum, sum_append, lents, Counted, Well, w_rest, w_todo, w_work, Wells, w_nil, w_still, w_active, w_lent, still_parts}

-- EXITs, as a measure
abbrev exit_one : Order → ℕ
exit_one = exits_of (λ p j. 1)

exits_tally : (os : List Order) → exits_in os ≡ tally exit_one os
unfolding exits_in tally exits_of
exits_tally [] = refl
exits_tally (Order.visit p ∷ os) = omega (arith, exits_tally os)
exits_tally (Order.fork p j ∷ os) = omega (arith, exits_tally os)
exits_tally (Order.join j c ∷ os) = omega (arith, exits_tally os)
exits_tally (Order.exit p j ∷ os) = omega (arith, exits_tally os)
exits_tally (Order.whole p k ∷ os) = omega (arith, exits_tally os)
exits_tally (Order.sleep ∷ os) = omega (arith, exits_tally os)
exits_tally (Order.bingo ∷ os) = omega (arith, exits_tally os)

-- what counts, counts somewhere
split_sum : (φ : Block → ℕ) (bs : List Block) → 1 ≤ sum φ bs → (a : List Block) × (x : Block) × (b : List Block) × (bs ≡ a ++ (x ∷ b)) × (1 ≤ φ x)
unfolding sum
split_sum φ [] h = absurd (omega arith)
split_sum φ (x ∷ bs) h = go (φ x) refl (split_sum φ bs)
  where
    go : (n : ℕ) → φ x ≡ n → (1 ≤ sum φ bs → (a : List Block) × (y : Block) × (b : List Block) × (bs ≡ a ++ (y ∷ b)) × (1 ≤ φ y)) →
        (a : List Block) × (y : Block) × (b : List Block) × (x ∷ bs ≡ a ++ (y ∷ b)) × (1 ≤ φ y)
    go zero e k =
        let (a, y, b, q, l) = k (omega (arith, h, e)) in (x ∷ a, y, b, ap (λ (z : List Block). x ∷ z) q, l)
    go (suc n) e k = ([], x, bs, refl, omega (arith, e))

split_join : (k : ℕ) (os : List Order) → 1 ≤ tally (joins_of k) os → (a : List Order) × (c : ℕ) × (b : List Order) × (os ≡ a ++ (Order.join k c ∷ b))
unfolding tally joins_of
split_join k [] h = absurd (omega arith)
split_join k (Order.join j c ∷ os) h =
    elim (eqb_cases k j) [
      | inl p ↦ ([], c, os, ap (λ (z : ℕ). Order.join z c ∷ os) (sym p.1))
      | inr p ↦
          let (a, d, b, q) = split_join k os (omega (arith, h, other_is k j 1 p.1)) in (Order.join j c ∷ a, d, b, ap (λ (z : List Order). Order.join j c ∷ z) q)
    ]
split_join k (Order.visit p ∷ os) h =
    let (a, d, b, q) = split_join k os (omega (arith, h)) in (Order.visit p ∷ a, d, b, ap (λ (z : List Order). Order.visit p ∷ z) q)
split_join k (Order.fork p j ∷ os) h =
    let (a, d, b, q) = split_join k os (omega (arith, h)) in (Order.fork p j ∷ a, d, b, ap (λ (z : List Order). Order.fork p j ∷ z) q)
split_join k (Order.exit p j ∷ os) h =
    let (a, d, b, q) = split_join k os (omega (arith, h)) in (Order.exit p j ∷ a, d, b, ap (λ (z : List Order). Order.exit p j ∷ z) q)
split_join k (Order.whole p j ∷ os) h =
    let (a, d, b, q) = split_join k os (omega (arith, h)) in (Order.whole p j ∷ a, d, b, ap (λ (z : List Order). Order.whole p j ∷ z) q)
split_join k (Order.sleep ∷ os) h =
    let (a, d, b, q) = split_join k os (omega (arith, h)) in (Order.sleep ∷ a, d, b, ap (λ (z : List Order). Order.sleep ∷ z) q)
split_join k (Order.bingo ∷ os) h =
    let (a, d, b, q) = split_join k os (omega (arith, h)) in (Order.bingo ∷ a, d, b, ap (λ (z : List Order). Order.bingo ∷ z) q)

-- JOINS OF EARLIER PARTS

-- m for a label with a stamp below n
unfoldable early : ℕ → Label → ℕ → ℕ
early n l m = elim (ltb l.stamp n) [ true ↦ m | false ↦ 0 ]

early_is : (n : ℕ) (l : Label) (m : ℕ) → l.stamp < n → early n l m ≡ m
unfolding early
early_is n l m h = elim (ltb_cases l.stamp n) [ inl p ↦ rw (p.0, early) | inr p ↦ absurd (omega (arith, p.1)) ]

early_none : (n : ℕ) (l : Label) (m : ℕ) → n ≤ l.stamp → early n l m ≡ 0
unfolding early
early_none n l m h = elim (ltb_cases l.stamp n) [ inl p ↦ absurd (omega (arith, p.1)) | inr p ↦ rw (p.0, early) ]

early_le : (n : ℕ) (l : Label) (m : ℕ) → early n l m ≤ m
early_le n l m =
    elim (ltb_cases l.stamp n) [ inl p ↦ omega (arith, early_is n l m p.1) | inr p ↦ omega (arith, early_none n l m p.1) ]

early_more : (n : ℕ) (l : Label) (m m' : ℕ) → m ≤ m' → early n l m ≤ early n l m'
early_more n l m m' h =
    elim (ltb_cases l.stamp n) [
      | inl p ↦ omega (arith, h, early_is n l m p.1, early_is n l m' p.1)
      | inr p ↦ omega (arith, early_none n l m p.1)
    ]

-- the JOINs of the number k that a block holds, if it was placed before n
abbrev held : ℕ → ℕ → Block → ℕ
held k n b = early n b.label (over (joins_of k) b)

-- a lent part: its own orders over its EXIT
record Lent (x : Block) : Type 0 where
  place : Position
  number : ℕ
  orders_of : List Order
  its_list : x.list ≡ orders_of ++ (Order.exit place number ∷ [])
  no_exit : tally exit_one orders_of ≡ 0

one_exit : (x : Block) → Lent x → over exit_one x ≡ 1
unfolding tally exits_of
one_exit x r = omega (arith, ap (tally exit_one) r.its_list, tally_append exit_one r.orders_of (Order.exit r.place r.number ∷ []), r.no_exit)

-- in the list os of the part labelled l, or in a block of bs that was placed before x, the JOIN of x stands
abbrev Seen : Label → List Order → List Block → (x : Block) → Lent x → Type 0
Seen l os bs x r = 1 ≤ early x.label.stamp l (tally (joins_of r.number) os) + sum (held r.number x.label.stamp) bs

-- or it is the next JOIN, numbered j, of the term around, which c parts are lent for
abbrev Found : Label → ℕ → ℕ → List Order → List Block → Block → Type 0
Found l j c os bs x = (r : Lent x) × (((r.number ≡ j) × (l.stamp < x.label.stamp) × (1 ≤ c)) ⊎ Seen l os bs x r)

seen_more : (l : Label) (os os' : List Order) (bs bs' : List Block) (x : Block) (r : Lent x) → ((μ : Order → ℕ) → tally μ os ≤ tally μ os') →
    ((φ : Block → ℕ) → sum φ bs ≤ sum φ bs') → Seen l os bs x r → Seen l os' bs' x r
seen_more l os os' bs bs' x r f g h =
    omega (arith, h, early_more x.label.stamp l _ _ (f (joins_of r.number)), g (held r.number x.label.stamp))

found_more : (l : Label) (j c c' : ℕ) (os os' : List Order) (bs bs' : List Block) (x : Block) → c ≤ c' → ((μ : Order → ℕ) → tally μ os ≤ tally μ os') →
    ((φ : Block → ℕ) → sum φ bs ≤ sum φ bs') → Found l j c os bs x → Found l j c' os' bs' x
found_more l j c c' os os' bs bs' x i f g (r, inl h) = (r, inl (h.0, h.1, omega (arith, i, h.2)))
found_more l j c c' os os' bs bs' x i f g (r, inr h) = (r, inr (seen_more l os os' bs bs' x r f g h))

past_own : (l : Label) (d : Ghost) (ks : Ghosts) (p : Position) (j i : ℕ) (x : Block) →
    Found l j (lents ks) (lists p (suc i) ks) (all_parts p j (suc i) ks) x →
    Found l j (lents (gcons own d ks)) (lists p i (gcons own d ks)) (all_parts p j i (gcons own d ks)) x
unfolding list parts lents
past_own l d ks p j i x =
    found_more l j (lents ks) (lents ks) (lists p (suc i) ks) (list (p ++ (i ∷ [])) d ++ lists p (suc i) ks) (all_parts p j (suc i) ks)
    (parts (p ++ (i ∷ [])) d ++ all_parts p j (suc i) ks) x (omega arith) (λ μ. omega (arith, tally_append μ (list (p ++ (i ∷ [])) d) (lists p (suc i) ks)))
    (λ φ. omega (arith, sum_append φ (parts (p ++ (i ∷ [])) d) (all_parts p j (suc i) ks)))

mutual
  unfolding list parts lents sum

  part_found : {l : Label} {D : Ghost} → Well l D → (p : Position) (x : Block) → In x (parts p D) → (r : Lent x) × Seen l (list p D) (parts p D) x r
  part_found w_rest p x m = absurd m
  part_found w_todo p x m = absurd m
  part_found {l} (w_work {j = j} {ks = ks} {ss = ss} w ok ds wi) p x m = go (parts_found w p j 0 x m)
    where
      there : (c : ℕ) → lents ks ≡ c → 1 ≤ c → 1 ≤ tally (joins_of j) (orders j p ss)
      there zero e h = absurd (omega arith)
      there (suc c) e h = joins_there j c p ss (subst (λ (z : ℕ). Counted z ss) e ok)

      go : Found l j (lents ks) (lists p 0 ks) (all_parts p j 0 ks) x →
          (r : Lent x) × Seen l (lists p 0 ks ++ orders j p ss) (all_parts p j 0 ks) x r
      go (r, inl h) =
          let t : 1 ≤ tally (joins_of r.number) (orders j p ss) =
          subst (λ (k : ℕ). 1 ≤ tally (joins_of k) (orders j p ss)) (sym h.0) (there (lents ks) refl h.2) in (
            r,
            omega (
              arith,
              t,
              early_is x.label.stamp l (tally (joins_of r.number) (lists p 0 ks ++ orders j p ss)) h.1,
              tally_append (joins_of r.number) (lists p 0 ks) (orders j p ss),
            ),
          )
      go (r, inr h) = (
        r,
        seen_more l (lists p 0 ks) (lists p 0 ks ++ orders j p ss) (all_parts p j 0 ks) (all_parts p j 0 ks) x r
            (λ μ. omega (arith, tally_append μ (lists p 0 ks) (orders j p ss))) (λ φ. omega arith) h,
      )

  parts_found : {l : Label} {k a : ℕ} {ss : List Step} {ks : Ghosts} → Wells l ss k a ks → (p : Position) (j i : ℕ) (x : Block) → In x (all_parts p j i ks) →
      Found l j (lents ks) (lists p i ks) (all_parts p j i ks) x
  parts_found w_nil p j i x m = absurd m
  parts_found {l} (w_still {d = d} {ks = ks} h w) p j i x m =
      past_own l d ks p j i x
      (parts_found w p j (suc i) x (subst (λ (z : List Block). In x (z ++ all_parts p j (suc i) ks)) (still_parts h (p ++ (i ∷ []))) m))
  parts_found {l} (w_active {d = d} {ks = ks} fr w ws) p j i x m =
      elim (in_append x (parts (p ++ (i ∷ [])) d) (all_parts p j (suc i) ks) m) [
        | inl a ↦
            let (r, h) = part_found w (p ++ (i ∷ [])) x a in (
              r,
              inr
                  (seen_more l (list (p ++ (i ∷ [])) d) (list (p ++ (i ∷ [])) d ++ lists p (suc i) ks) (parts (p ++ (i ∷ [])) d)
                  (parts (p ++ (i ∷ [])) d ++ all_parts p j (suc i) ks) x r (λ μ. omega (arith, tally_append μ (list (p ++ (i ∷ [])) d) (lists p (suc i) ks)))
                  (λ φ. omega (arith, sum_append φ (parts (p ++ (i ∷ [])) d) (all_parts p j (suc i) ks))) h),
            )
        | inr b ↦ past_own l d ks p j i x (parts_found ws p j (suc i) x b)
      ]
  parts_found {l} (w_lent {l' = l'} {d = d} {ks = ks} s f w ws) p j i x m =
      elim m [
        | inl e ↦ (
          record {
            place = p ++ (i ∷ []);
            number = j;
            orders_of = list (p ++ (i ∷ [])) d;
            its_list = ap (λ (z : Block). z.list) e;
            no_exit = list_exits (λ q k. 1) (p ++ (i ∷ [])) d;
          },
          inl (refl, subst (λ (z : Block). l.stamp < z.label.stamp) (sym e) s, omega arith),
        )
        | inr m' ↦
            elim (in_append x (parts (p ++ (i ∷ [])) d) (all_parts p j (suc i) ks) m') [
              | inl a ↦
                  let (r, h) = part_found w (p ++ (i ∷ [])) x a in (
                    r,
                    inr (omega (
                      arith,
                      h,
                      early_more x.label.stamp l' (tally (joins_of r.number) (list (p ++ (i ∷ [])) d))
                          (tally (joins_of r.number) (list (p ++ (i ∷ [])) d ++ (Order.exit (p ++ (i ∷ [])) j ∷ [])))
                          (omega (arith, tally_append (joins_of r.number) (list (p ++ (i ∷ [])) d) (Order.exit (p ++ (i ∷ [])) j ∷ []))),
                      sum_append (held r.number x.label.stamp) (parts (p ++ (i ∷ [])) d) (all_parts p j (suc i) ks),
                    )),
                  )
              | inr b ↦
                  found_more l j (lents ks) (suc (lents ks)) (lists p (suc i) ks) (lists p (suc i) ks) (all_parts p j (suc i) ks)
                  (block l' (list (p ++ (i ∷ [])) d ++ (Order.exit (p ++ (i ∷ [])) j ∷ [])) ∷ (parts (p ++ (i ∷ [])) d ++ all_parts p j (suc i) ks)) x (omega arith) (λ μ. omega arith)
                  (λ φ. omega (arith, sum_append φ (parts (p ++ (i ∷ [])) d) (all_parts p j (suc i) ks))) (parts_found ws p j (suc i) x b)
            ]
      ]

-- THE BLOCKS BY THEIR UNITS

-- where the units are split, so are the blocks
split_owners : (bs : List Block) (vs : List ℕ) (v : ℕ) (ws : List ℕ) → owners bs ≡ vs ++ (v ∷ ws) →
    (a : List Block) × (x : Block) × (b : List Block) × (bs ≡ a ++ (x ∷ b)) × (owners a ≡ vs) × (x.label.owner ≡ v) × (owners b ≡ ws)
split_owners [] [] v ws e = let z : ◌≡◌ {A = ℕ} 0 1 = cc in absurd (omega arith)
split_owners [] (w ∷ vs) v ws e = let z : ◌≡◌ {A = ℕ} 0 1 = cc in absurd (omega arith)
split_owners (x ∷ bs) [] v ws e = ([], x, bs, refl, refl, head-eq_of_cons-eq e, tail-eq_of_cons-eq e)
split_owners (x ∷ bs) (w ∷ vs) v ws e =
    let (a, y, b, q, o, i, r) = split_owners bs vs v ws (tail-eq_of_cons-eq e) in (
      x ∷ a,
      y,
      b,
      ap (λ (z : List Block). x ∷ z) q,
      ap (λ (z : List ℕ). x.label.owner ∷ z) o ∙ ap (λ (z : ℕ). z ∷ vs) (head-eq_of_cons-eq e),
      i,
      r,
    )

no_owners : (bs : List Block) → owners bs ≡ [] → bs ≡ []
no_owners [] e = refl
no_owners (x ∷ bs) e = let z : ◌≡◌ {A = ℕ} 0 1 = cc in absurd (omega arith)

-- blocks in front were placed later
sorted_above : (a : List Block) (x : Block) (b : List Block) → Sorted (a ++ (x ∷ b)) → All (λ (z : Block). x.label.stamp < z.label.stamp) a
sorted_above [] x b h = tt
sorted_above (z ∷ a) x b h =
    (labels_in (Under z.label.stamp) x (a ++ (x ∷ b)) h.0 (in_mid a x b), sorted_above a x b h.1)

held_none : (k n : ℕ) (a : List Block) → All (λ (z : Block). n < z.label.stamp) a → sum (held k n) a ≡ 0
unfolding sum
held_none k n [] h = refl
held_none k n (z ∷ a) h = omega (arith, early_none n z.label (over (joins_of k) z) (omega (arith, h.0)), held_none k n a h.1)

-- of lent parts, a unit's list has as many EXITs as the unit has parts
exits_owned : (u : ℕ) (a : List Block) → All Lent a → tally exit_one (blocks_of u a) ≡ times u (owners a)
exits_owned u [] h = unfold times tally in ap (tally exit_one) (blocks_none u)
exits_owned u (x ∷ a) h =
    elim (eqb_cases u x.label.owner) [
      | inl p ↦
          omega (
            arith,
            ap (tally exit_one) (blocks_same u x a p.1),
            tally_append exit_one x.list (blocks_of u a),
            one_exit x h.0,
            exits_owned u a h.1,
            times_cons u x.label.owner (owners a),
            same_is u x.label.owner 1 p.1,
          )
      | inr p ↦
          omega (
            arith,
            ap (tally exit_one) (blocks_other u x a p.1),
            exits_owned u a h.1,
            times_cons u x.label.owner (owners a),
            other_is u x.label.owner 1 p.1,
          )
    ]

-- one EXIT or more, where a lent part is the unit's
exit_there : (w : ℕ) (x : Block) (b : List Block) → Lent x → if_same w x.label.owner 1 ≤ tally exit_one (blocks_of w (x ∷ b))
exit_there w x b r =
    elim (eqb_cases w x.label.owner) [
      | inl p ↦
          omega (
            arith,
            same_is w x.label.owner 1 p.1,
            ap (tally exit_one) (blocks_same w x b p.1),
            tally_append exit_one x.list (blocks_of w b),
            one_exit x r,
          )
      | inr p ↦ omega (arith, other_is w x.label.owner 1 p.1)
    ]

bottom_none : (u : ℕ) → tally exit_one (bottom u) ≡ 0
unfolding bottom tally exits_of
bottom_none zero = refl
bottom_none (suc u) = refl

-- THE PENDING PARTS

module _ (B : Book) (L : Limits) (s : State) (D : Ghost) (bs : List Block) (inv : Inv B L s D bs) where
  -- the main part, which was placed first
  abbrev main : Block
  main = block root_label (list [] D ++ (Order.bingo ∷ []))

  main_last : (a : List Block) × (bs ≡ a ++ (main ∷ [])) × (owners a ≡ s.placed) × All (λ (z : Block). In z (parts [] D)) a
  main_last = go (split_owners bs s.placed 0 [] inv.placed)
    where
      go : (a : List Block) × (x : Block) × (b : List Block) × (bs ≡ a ++ (x ∷ b)) × (owners a ≡ s.placed) × (x.label.owner ≡ 0) × (owners b ≡ []) →
          (a : List Block) × (bs ≡ a ++ (main ∷ [])) × (owners a ≡ s.placed) × All (λ (z : Block). In z (parts [] D)) a
      go (a, x, b, e, o, i, r) = (a, f ∙ ap (λ (z : Block). a ++ (z ∷ [])) (sym is_main), o, lent_in)
        where
          f : bs ≡ a ++ (x ∷ [])
          f = e ∙ ap (λ (z : List Block). a ++ (x ∷ z)) (no_owners b r)

          above : All (λ (z : Block). x.label.stamp < z.label.stamp) a
          above = sorted_above a x [] (subst (λ (z : List Block). Sorted z) f inv.sorted)

          is_main : main ≡ x
          is_main =
              elim (in_append main a (x ∷ []) (subst (λ (z : List Block). In main z) f (same_in (all D) bs (λ φ. sym (inv.same φ)) main (inl refl)))) [
                | inl m ↦ absurd (omega (arith, all_in (λ (z : Block). x.label.stamp < z.label.stamp) main a above m))
                | inr m ↦ elim m [ inl q ↦ q | inr q ↦ absurd q ]
              ]

          stands : All (λ (z : Block). In z (all D)) a
          stands =
              (all_split (λ (z : Block). In z (all D)) a (x ∷ [])
              (subst (λ (z : List Block). All (λ (y : Block). In y (all D)) z) f (all_of (λ (z : Block). In z (all D)) bs (λ z m. same_in bs (all D) inv.same z m)))).0

          lent_in : All (λ (z : Block). In z (parts [] D)) a
          lent_in =
              all_of (λ (z : Block). In z (parts [] D)) a
              (λ z m.
              let l = all_in (λ (y : Block). x.label.stamp < y.label.stamp) z a above m in
              elim (all_in (λ (y : Block). In y (all D)) z a stands m) [
                | inl q ↦ absurd (omega (arith, l, ap (λ (y : Block). y.label.stamp) q))
                | inr q ↦ q
              ])

  main_none : (u : ℕ) → tally exit_one (list_of u (main ∷ [])) ≡ 0
  unfolding list_of sum tally exits_of
  main_none u =
      omega (
        arith,
        tally_append exit_one (blocks_of u (main ∷ [])) (bottom u),
        bottom_none u,
        blocks_tally exit_one u (main ∷ []),
        tally_append exit_one (list [] D) (Order.bingo ∷ []),
        list_exits (λ p j. 1) [] D,
      )

  module _ (a : List Block) (e : bs ≡ a ++ (main ∷ [])) (o : owners a ≡ s.placed) (h : All (λ (z : Block). In z (parts [] D)) a) where
    lents_in : All Lent a
    lents_in = all_map (λ (z : Block). In z (parts [] D)) Lent (λ z m. (part_found inv.well [] z m).0) a h

    exits_many : (u : ℕ) → exits_in (unit s.units u).list ≡ times u s.placed
    exits_many u =
        omega (
          arith,
          exits_tally (unit s.units u).list,
          ap (tally exit_one) ((inv.fits u).0 ∙ ap (list_of u) e ∙ list_append u a (main ∷ [])),
          tally_append exit_one (blocks_of u a) (list_of u (main ∷ [])),
          main_none u,
          exits_owned u a lents_in,
          ap (times u) o,
        )

    -- the block x of the part, those placed later in front of it
    module _ (a₁ : List Block) (x : Block) (a₂ : List Block) (ea : a ≡ a₁ ++ (x ∷ a₂)) where
      abbrev b : List Block
      b = a₂ ++ (main ∷ [])

      split : bs ≡ a₁ ++ (x ∷ b)
      split = e ∙ ap (λ (z : List Block). z ++ (main ∷ [])) ea ∙ append_assoc a₁ (x ∷ a₂) (main ∷ [])

      lents_front : All Lent a₁
      lents_front = (all_split Lent a₁ (x ∷ a₂) (subst (λ (z : List Block). All Lent z) ea lents_in)).0

      found : (r : Lent x) × Seen root_label (list [] D) (parts [] D) x r
      found =
          part_found inv.well [] x
          (all_in (λ (z : Block). In z (parts [] D)) x a h (subst (λ (z : List Block). In x z) (sym ea) (in_mid a₁ x a₂)))

      -- its JOIN stands in a block placed earlier
      join_below : (r : Lent x) → Seen root_label (list [] D) (parts [] D) x r → 1 ≤ sum (held r.number x.label.stamp) b
      unfolding sum
      join_below r h =
          let n = x.label.stamp in
          let k = r.number in
          omega (
            arith,
            h,
            early_more n root_label (tally (joins_of k) (list [] D)) (tally (joins_of k) (list [] D ++ (Order.bingo ∷ [])))
                (omega (arith, tally_append (joins_of k) (list [] D) (Order.bingo ∷ []))),
            inv.same (held k n),
            ap (sum (held k n)) split,
            sum_append (held k n) a₁ (x ∷ b),
            held_none k n a₁ (sorted_above a₁ x b (subst (λ (z : List Block). Sorted z) split inv.sorted)),
            early_none n x.label (over (joins_of k) x) (omega arith),
          )

      module _ (r : Lent x) (b₁ : List Block) (y : Block) (b₂ : List Block) (eb : b ≡ b₁ ++ (y ∷ b₂)) (os₁ : List Order) (c : ℕ) (os₂ : List Order)
          (ej : y.list ≡ os₁ ++ (Order.join r.number c ∷ os₂)) (later : List ℕ) (v : ℕ) (o₁ : owners a₁ ≡ later) (mine : x.label.owner ≡ v) where
        abbrev w : ℕ
        w = y.label.owner

        split_there : bs ≡ (a₁ ++ (x ∷ b₁)) ++ (y ∷ b₂)
        split_there = split ∙ ap (λ (z : List Block). a₁ ++ (x ∷ z)) eb ∙ sym (append_assoc a₁ (x ∷ b₁) (y ∷ b₂))

        pending_part : PendingPart s later v
        pending_part = record {
          place = r.place;
          number = r.number;
          above = blocks_of v a₁ ++ r.orders_of;
          below = list_of v b;
          its_exit = (inv.fits v).0 ∙ ap (list_of v) split ∙ list_append v a₁ (x ∷ b)
              ∙ ap (λ (z : List Order). blocks_of v a₁ ++ z) (list_same v x b (sym mine) ∙ ap (λ (z : List Order). z ++ list_of v b) r.its_list)
              ∙ simp append_assoc;
          under = omega (
            arith,
            exits_tally (blocks_of v a₁ ++ r.orders_of),
            tally_append exit_one (blocks_of v a₁) r.orders_of,
            exits_owned v a₁ lents_front,
            ap (times v) o₁,
            r.no_exit,
          );
          forker = w;
          count = c;
          higher = blocks_of w (a₁ ++ (x ∷ b₁)) ++ os₁;
          lower = os₂ ++ list_of w b₂;
          its_join = (inv.fits w).0 ∙ ap (list_of w) split_there ∙ list_append w (a₁ ++ (x ∷ b₁)) (y ∷ b₂)
              ∙ ap (λ (z : List Order). blocks_of w (a₁ ++ (x ∷ b₁)) ++ z) (list_same w y b₂ refl ∙ ap (λ (z : List Order). z ++ list_of w b₂) ej)
              ∙ simp append_assoc;
          earlier = omega (
            arith,
            exits_tally (blocks_of w (a₁ ++ (x ∷ b₁)) ++ os₁),
            tally_append exit_one (blocks_of w (a₁ ++ (x ∷ b₁))) os₁,
            ap (tally exit_one) (blocks_append w a₁ (x ∷ b₁)),
            tally_append exit_one (blocks_of w a₁) (blocks_of w (x ∷ b₁)),
            exits_owned w a₁ lents_front,
            ap (times w) o₁,
            times_cons w v later,
            exit_there w x b₁ r,
            ap (λ (z : ℕ). if_same w z 1) mine,
          );
        }

    part_placed : (later : List ℕ) (v : ℕ) (before : List ℕ) → s.placed ≡ later ++ (v ∷ before) → PendingPart s later v
    part_placed later v before q =
        let (a₁, x, a₂, ea, o₁, mine, o₂) = split_owners a later v before (o ∙ q) in
        let (r, sn) = found a₁ x a₂ ea in
        let (b₁, y, b₂, eb, hy) = split_sum (held r.number x.label.stamp) (a₂ ++ (main ∷ [])) (join_below a₁ x a₂ ea r sn) in
        let (os₁, c, os₂, ej) = split_join r.number y.list (omega (arith, hy, early_le x.label.stamp y.label (over (joins_of r.number) y))) in
        pending_part a₁ x a₂ ea r b₁ y b₂ eb os₁ c os₂ ej later v o₁ mine

pub placed_in_order : (B : Book) (L : Limits) (s : State) (D : Ghost) (bs : List Block) → Inv B L s D bs → PlacedInOrder s
placed_in_order B L s D bs inv =
    let (a, e, o, h) = main_last B L s D bs inv in
    record { many = exits_many B L s D bs inv a e o h; in_order = part_placed B L s D bs inv a e o h }

-- EVERY STATE OF EVERY RUN, by any grant rule that answers idle units only
pub placed_throughout : (G : Grant) → OnlyIdle G → (B : Book) → Sound B → (t : Term) → Correct (arity B) t → (L : Limits) (units : ℕ) (schedule : List ℕ) →
    Throughout PlacedInOrder (start units t) (moments_by G B L units schedule t)
placed_throughout G only_idle B sound t c L units schedule =
    course_states PlacedInOrder (placed_in_order B L) (whole_course G only_idle B sound t c L units schedule)
