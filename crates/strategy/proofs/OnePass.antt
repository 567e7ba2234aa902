-- Settling in one pass is settling: the numbers kept are those of the settled list. Assumes nothing.
use mathlib.Core.Bool.{Bool, true, false}
use mathlib.Core.List.{List, [], ◌∷◌, ◌++◌, map, append_assoc, append-nil}
use mathlib.Core.Logic.{◌⊎◌, inl, inr, ◌≢◌}
use mathlib.Core.Path.{◌≡◌, refl, sym, ap, ap₂, ◌∙◌}
use Prim.Native.Nat.{ℕ, suc, ◌+◌, ◌-◌, ◌<◌}
use native.Mathlib.Omega.{arith}
use lib.Dec.{eqb, eqb-suc-zero, eqb-suc-suc}
use lib.ListN.{length, get_or, length-append}
use lib.Seq.{append_snoc, take-append_seam, get_or-append-add, get_or-append_seam}
use Rattle.paper.specs.Result.{if}
use Rattle.paper.specs.Strategy.{Item, has, unseen, drop_repeats, drop_groups, whole_before, merge_wholes, settle}
use Rattle.paper.specs.Reader.{items}
use Rattle.paper.specs.Writer.{numbers}
use Rattle.paper.specs.Sound.{All}
use Rattle.paper.specs.WellFormed.{ItemsWithin}
use Rattle.paper.proofs.Tests.{either, eqb_true, eqb_false, eqb_equal, ltb_true}
use Rattle.paper.proofs.Settling.{within_more}
use Rattle.paper.proofs.Operators.{items_numbers}
use Rattle.strategy.specs.Settling.{ends_in_zero, closed, settling}

-- Neighbouring 0s, from the left

-- the list without a 0 behind a 0, where an item that is 0 or not stands before it
unfoldable merge_after : Bool → List Item → List Item
merge_after b [] = []
merge_after true (Item.whole ∷ is) = merge_after true is
merge_after false (Item.whole ∷ is) = Item.whole ∷ merge_after true is
merge_after b (Item.argument i ∷ is) = Item.argument i ∷ merge_after false is
merge_after b (Item.group js ∷ is) = Item.group js ∷ merge_after false is

merges : (is : List Item) → (merge_wholes is ≡ merge_after false is) × (whole_before (merge_wholes is) ≡ Item.whole ∷ merge_after true is)
unfolding merge_after merge_wholes
merges [] = (refl, refl)
merges (Item.whole ∷ is) = let (p, q) = merges is in (q, ap whole_before q)
merges (Item.argument i ∷ is) =
    let (p, q) = merges is in
    (ap (λ (r : List Item). Item.argument i ∷ r) p, ap (λ (r : List Item). Item.whole ∷ Item.argument i ∷ r) p)
merges (Item.group js ∷ is) =
    let (p, q) = merges is in
    (ap (λ (r : List Item). Item.group js ∷ r) p, ap (λ (r : List Item). Item.whole ∷ Item.group js ∷ r) p)

settle_merges : (is : List Item) → settle is ≡ merge_after false (drop_groups (drop_repeats [] is))
unfolding settle
settle_merges is = (merges (drop_groups (drop_repeats [] is))).0

-- Membership

pub has_cons : (v w : ℕ) (ws : List ℕ) → has v (w ∷ ws) ≡ if (eqb v w) true (has v ws)
unfolding has
has_cons v w ws = go (either (eqb v w))
  where
    go : (eqb v w ≡ true) ⊎ (eqb v w ≡ false) → has v (w ∷ ws) ≡ if (eqb v w) true (has v ws)
    go (inl p) = rw (p, has)
    go (inr p) = rw (p, has)

if_both : (b : Bool) → if b true true ≡ true
if_both true = refl
if_both false = refl

if_assoc : (b c d : Bool) → if (if b true c) true d ≡ if b true (if c true d)
if_assoc true c d = refl
if_assoc false c d = refl

if_swap : (b c d : Bool) → if b true (if c true d) ≡ if c true (if b true d)
if_swap true true d = refl
if_swap true false d = refl
if_swap false true d = refl
if_swap false false d = refl

if_same : (b : Bool) → if b true false ≡ b
if_same true = refl
if_same false = refl

has_append : (v : ℕ) (us ws : List ℕ) → has v (us ++ ws) ≡ if (has v us) true (has v ws)
unfolding has
has_append v [] ws = refl
has_append v (u ∷ us) ws =
    has_cons v u (us ++ ws) ∙ ap (λ (b : Bool). if (eqb v u) true b) (has_append v us ws)
    ∙ sym (ap (λ (b : Bool). if b true (has v ws)) (has_cons v u us) ∙ if_assoc (eqb v u) (has v us) (has v ws))

has_one : (v w : ℕ) → has v (w ∷ []) ≡ eqb v w
unfolding has
has_one v w = has_cons v w [] ∙ if_same (eqb v w)

-- the arguments kept are those seen
abbrev Seen : List ℕ → List ℕ → Type 0
Seen kept seen = (i : ℕ) → i < 7 → has (suc i) kept ≡ has i seen

-- kept with a number that is no argument
seen_other : (kept seen : List ℕ) (w : ℕ) → ((i : ℕ) → i < 7 → suc i ≢ w) → Seen kept seen → Seen (kept ++ (w ∷ [])) seen
seen_other kept seen w n s i h =
    has_append (suc i) kept (w ∷ []) ∙ ap (λ (b : Bool). if (has (suc i) kept) true b) (has_one (suc i) w ∙ eqb_false (suc i) w (n i h))
    ∙ if_same (has (suc i) kept) ∙ s i h

seen_argument : (kept seen : List ℕ) (j : ℕ) → Seen kept seen → Seen (kept ++ (suc j ∷ [])) (j ∷ seen)
seen_argument kept seen j s i h =
    has_append (suc i) kept (suc j ∷ [])
    ∙ ap₂ (λ (b c : Bool). if b true c) (s i h) (has_one (suc i) (suc j) ∙ eqb-suc-suc i j ∙ sym (if_same (eqb i j)))
    ∙ if_swap (has i seen) (eqb i j) false ∙ ap (λ (b : Bool). if (eqb i j) true b) (if_same (has i seen)) ∙ sym (has_cons i j seen)

-- Repeats

unseen_yes : (seen : List ℕ) (j : ℕ) (js : List ℕ) → has j seen ≡ true → unseen seen (j ∷ js) ≡ unseen seen js
unfolding unseen
unseen_yes seen j js p = rw (p, unseen)

unseen_no : (seen : List ℕ) (j : ℕ) (js : List ℕ) → has j seen ≡ false → unseen seen (j ∷ js) ≡ j ∷ unseen (j ∷ seen) js
unfolding unseen
unseen_no seen j js p = rw (p, unseen)

repeat_yes : (seen : List ℕ) (i : ℕ) (is : List Item) → has i seen ≡ true → drop_repeats seen (Item.argument i ∷ is) ≡ drop_repeats seen is
unfolding drop_repeats
repeat_yes seen i is p = rw (p, drop_repeats)

repeat_no : (seen : List ℕ) (i : ℕ) (is : List Item) → has i seen ≡ false →
    drop_repeats seen (Item.argument i ∷ is) ≡ Item.argument i ∷ drop_repeats (i ∷ seen) is
unfolding drop_repeats
repeat_no seen i is p = rw (p, drop_repeats)

repeat_whole : (seen : List ℕ) (is : List Item) → drop_repeats seen (Item.whole ∷ is) ≡ Item.whole ∷ drop_repeats seen is
unfolding drop_repeats
repeat_whole seen is = refl

repeat_group : (seen js : List ℕ) (is : List Item) →
    drop_repeats seen (Item.group js ∷ is) ≡ Item.group (unseen seen js) ∷ drop_repeats (js ++ seen) is
unfolding drop_repeats
repeat_group seen js is = refl

-- the arguments js and those seen, with j between them or before
between : (i j : ℕ) (js seen : List ℕ) → has i (js ++ (j ∷ seen)) ≡ has i (j ∷ (js ++ seen))
between i j js seen =
    has_append i js (j ∷ seen) ∙ ap (λ (b : Bool). if (has i js) true b) (has_cons i j seen)
    ∙ if_swap (has i js) (eqb i j) (has i seen) ∙ ap (λ (b : Bool). if (eqb i j) true b) (sym (has_append i js seen))
    ∙ sym (has_cons i j (js ++ seen))

again : (i j : ℕ) (js seen : List ℕ) → has j seen ≡ true → has i (js ++ seen) ≡ has i (j ∷ (js ++ seen))
again i j js seen p = go (either (eqb i j))
  where
    go : (eqb i j ≡ true) ⊎ (eqb i j ≡ false) → has i (js ++ seen) ≡ has i (j ∷ (js ++ seen))
    go (inl q) =
        has_append i js seen ∙ ap (λ (b : Bool). if (has i js) true b) (ap (λ (k : ℕ). has k seen) (eqb_equal i j q) ∙ p) ∙ if_both (has i js)
        ∙ sym (has_cons i j (js ++ seen) ∙ ap (λ (b : Bool). if b true (has i (js ++ seen))) q)
    go (inr q) = sym (has_cons i j (js ++ seen) ∙ ap (λ (b : Bool). if b true (has i (js ++ seen))) q)

seen_group : (kept seen js : List ℕ) → Seen kept seen → Seen (kept ++ map suc (unseen seen js)) (js ++ seen)
unfolding unseen
seen_group kept seen [] s = rw (append-nil kept) s
seen_group kept seen (j ∷ js) s =
    elim (either (has j seen)) [
      | inl p ↦ λ i h. ap (λ (us : List ℕ). has (suc i) (kept ++ map suc us)) (unseen_yes seen j js p) ∙ seen_group kept seen js s i h ∙ again i j js seen p
      | inr p ↦ λ i h.
          ap (λ (us : List ℕ). has (suc i) (kept ++ map suc us)) (unseen_no seen j js p)
          ∙ ap (has (suc i)) (sym (append_snoc kept (suc j) (map suc (unseen (j ∷ seen) js))))
          ∙ seen_group (kept ++ (suc j ∷ [])) (j ∷ seen) js (seen_argument kept seen j s) i h ∙ between i j js seen
    ]

-- One number

ends_snoc : (kept : List ℕ) (w : ℕ) → ends_in_zero (kept ++ (w ∷ [])) ≡ eqb w 0
ends_snoc kept w =
    let l : length (kept ++ (w ∷ [])) - 1 ≡ length kept = omega (arith, length-append kept (w ∷ [])) in
    ap (λ (n : ℕ). eqb (get_or (kept ++ (w ∷ [])) n 1) 0) l ∙ ap (λ (x : ℕ). eqb x 0) (get_or-append_seam kept w [] 1)

settling_zero_yes : (kept : List ℕ) (g : ℕ) (vs : List ℕ) → ends_in_zero kept ≡ true → settling kept g (0 ∷ vs) ≡ settling kept g vs
unfolding settling
settling_zero_yes kept g vs p = ap (λ (b : Bool). settling (if b kept (kept ++ (0 ∷ []))) g vs) p

settling_zero_no : (kept : List ℕ) (g : ℕ) (vs : List ℕ) → ends_in_zero kept ≡ false → settling kept g (0 ∷ vs) ≡ settling (kept ++ (0 ∷ [])) g vs
unfolding settling
settling_zero_no kept g vs p = ap (λ (b : Bool). settling (if b kept (kept ++ (0 ∷ []))) g vs) p

settling_argument : (kept : List ℕ) (g i : ℕ) (vs : List ℕ) → i < 7 →
    settling kept g (suc i ∷ vs) ≡ settling (if (has (suc i) kept) kept (kept ++ (suc i ∷ []))) g vs
unfolding settling
settling_argument kept g i vs h = rw (eqb-suc-zero i, eqb_false (suc i) 8 (omega arith), ltb_true (suc i) 8 (omega arith))

settling_open : (kept : List ℕ) (g : ℕ) (vs : List ℕ) → settling kept g (8 ∷ vs) ≡ settling (kept ++ (8 ∷ [])) (length kept) vs
unfolding settling
settling_open kept g vs = refl

settling_close : (kept : List ℕ) (g : ℕ) (vs : List ℕ) → settling kept g (9 ∷ vs) ≡ settling (closed kept g) g vs
unfolding settling
settling_close kept g vs = refl

-- Groups

settling_arguments : (kept : List ℕ) (g : ℕ) (seen js vs : List ℕ) → All (λ j. j < 7) js → Seen kept seen →
    settling kept g (map suc js ++ vs) ≡ settling (kept ++ map suc (unseen seen js)) g vs
unfolding unseen
settling_arguments kept g seen [] vs w s = ap (λ (l : List ℕ). settling l g vs) (sym (append-nil kept))
settling_arguments kept g seen (j ∷ js) vs w s =
    settling_argument kept g j (map suc js ++ vs) w.0
    ∙ elim (either (has j seen)) [
      | inl p ↦
          ap (λ (b : Bool). settling (if b kept (kept ++ (suc j ∷ []))) g (map suc js ++ vs)) (s j w.0 ∙ p)
          ∙ settling_arguments kept g seen js vs w.1 s
          ∙ ap (λ (us : List ℕ). settling (kept ++ map suc us) g vs) (sym (unseen_yes seen j js p))
      | inr p ↦
          ap (λ (b : Bool). settling (if b kept (kept ++ (suc j ∷ []))) g (map suc js ++ vs)) (s j w.0 ∙ p)
          ∙ settling_arguments (kept ++ (suc j ∷ [])) g (j ∷ seen) js vs w.1 (seen_argument kept seen j s)
          ∙ ap (λ (l : List ℕ). settling l g vs) (append_snoc kept (suc j) (map suc (unseen (j ∷ seen) js)))
          ∙ ap (λ (us : List ℕ). settling (kept ++ map suc us) g vs) (sym (unseen_no seen j js p))
    ]

-- the numbers of a group once it is closed
abbrev grouped : List ℕ → List ℕ
grouped [] = []
grouped (u ∷ []) = u ∷ []
grouped (u ∷ v ∷ us) = 8 ∷ (u ∷ v ∷ us ++ (9 ∷ []))

close_group : (kept us : List ℕ) → closed (kept ++ (8 ∷ us)) (length kept) ≡ kept ++ grouped us
unfolding closed
close_group kept [] =
    let l = length-append kept (8 ∷ []) in
    rw (eqb_true (length (kept ++ (8 ∷ []))) (length kept + 1) l) (take-append_seam kept (8 ∷ []) ∙ sym (append-nil kept))
close_group kept (u ∷ []) =
    let l = length-append kept (8 ∷ u ∷ []) in
    rw (eqb_false (length (kept ++ (8 ∷ u ∷ []))) (length kept + 1) (λ e. omega arith), eqb_true (length (kept ++ (8 ∷ u ∷ []))) (length kept + 2) l)
    (ap₂ (λ (k : List ℕ) (x : ℕ). k ++ (x ∷ [])) (take-append_seam kept (8 ∷ u ∷ [])) (get_or-append-add kept (8 ∷ u ∷ []) 1 0))
close_group kept (u ∷ v ∷ us) =
    let l = length-append kept (8 ∷ u ∷ v ∷ us) in
    rw (
      eqb_false (length (kept ++ (8 ∷ u ∷ v ∷ us))) (length kept + 1) (λ e. omega arith),
      eqb_false (length (kept ++ (8 ∷ u ∷ v ∷ us))) (length kept + 2) (λ e. omega arith),
    ) (append_assoc kept (8 ∷ u ∷ v ∷ us) (9 ∷ []))

has_grouped : (i : ℕ) (us : List ℕ) → i < 7 → has (suc i) (grouped us) ≡ has (suc i) us
has_grouped i [] h = refl
has_grouped i (u ∷ []) h = refl
has_grouped i (u ∷ v ∷ us) h =
    has_cons (suc i) 8 (u ∷ v ∷ us ++ (9 ∷ [])) ∙ ap (λ (b : Bool). if b true (has (suc i) (u ∷ v ∷ us ++ (9 ∷ [])))) (eqb_false (suc i) 8 (omega arith))
    ∙ has_append (suc i) (u ∷ v ∷ us) (9 ∷ [])
    ∙ ap (λ (b : Bool). if (has (suc i) (u ∷ v ∷ us)) true b) (has_one (suc i) 9 ∙ eqb_false (suc i) 9 (omega arith))
    ∙ if_same (has (suc i) (u ∷ v ∷ us))

seen_closed : (kept seen us : List ℕ) → Seen (kept ++ us) seen → Seen (kept ++ grouped us) seen
seen_closed kept seen us s i h =
    has_append (suc i) kept (grouped us) ∙ ap (λ (b : Bool). if (has (suc i) kept) true b) (has_grouped i us h) ∙ sym (has_append (suc i) kept us) ∙ s i h

-- the numbers behind what is kept
abbrev Behind : List ℕ → List Item → List ℕ
Behind kept is = kept ++ numbers (merge_after (ends_in_zero kept) (drop_groups is))

settling_none : (kept : List ℕ) (g : ℕ) (seen : List ℕ) → settling kept g [] ≡ Behind kept (drop_repeats seen [])
unfolding settling drop_repeats merge_after drop_groups numbers
settling_none kept g seen = sym (append-nil kept)

behind_group : (kept us : List ℕ) (is : List Item) → Behind (kept ++ grouped (map suc us)) is ≡ Behind kept (Item.group us ∷ is)
unfolding merge_after drop_groups numbers
behind_group kept [] is = ap (λ (k : List ℕ). Behind k is) (append-nil kept)
behind_group kept (u ∷ []) is =
    ap (λ (b : Bool). (kept ++ (suc u ∷ [])) ++ numbers (merge_after b (drop_groups is))) (ends_snoc kept (suc u) ∙ eqb-suc-zero u)
    ∙ append_snoc kept (suc u) (numbers (merge_after false (drop_groups is)))
behind_group kept (u ∷ v ∷ us) is =
    let gs : List ℕ = 8 ∷ suc u ∷ suc v ∷ map suc us in
    let e : ends_in_zero (kept ++ (gs ++ (9 ∷ []))) ≡ false = ap ends_in_zero (sym (append_assoc kept gs (9 ∷ []))) ∙ ends_snoc (kept ++ gs) 9 in
    ap (λ (b : Bool). (kept ++ (gs ++ (9 ∷ []))) ++ numbers (merge_after b (drop_groups is))) e
    ∙ append_assoc kept (gs ++ (9 ∷ [])) (numbers (merge_after false (drop_groups is)))
    ∙ ap (λ (l : List ℕ). kept ++ l) (append_snoc gs 9 (numbers (merge_after false (drop_groups is))))

behind_whole : (b : Bool) (kept : List ℕ) (is : List Item) → ends_in_zero kept ≡ b →
    Behind (if b kept (kept ++ (0 ∷ []))) is ≡ Behind kept (Item.whole ∷ is)
unfolding merge_after drop_groups numbers
behind_whole true kept is p = rw p
behind_whole false kept is p =
    rw (p, ends_snoc kept 0) (append_snoc kept 0 (numbers (merge_after true (drop_groups is))))

behind_argument : (kept : List ℕ) (i : ℕ) (is : List Item) → Behind (kept ++ (suc i ∷ [])) is ≡ Behind kept (Item.argument i ∷ is)
unfolding merge_after drop_groups numbers
behind_argument kept i is =
    ap (λ (b : Bool). (kept ++ (suc i ∷ [])) ++ numbers (merge_after b (drop_groups is))) (ends_snoc kept (suc i) ∙ eqb-suc-zero i)
    ∙ append_snoc kept (suc i) (numbers (merge_after false (drop_groups is)))

-- what one pass keeps
one_pass : (kept : List ℕ) (g : ℕ) (seen : List ℕ) (is : List Item) → ItemsWithin 7 is → Seen kept seen →
    settling kept g (numbers is) ≡ Behind kept (drop_repeats seen is)
unfolding numbers
one_pass kept g seen [] w s = settling_none kept g seen
one_pass kept g seen (Item.whole ∷ is) w s =
    elim (either (ends_in_zero kept)) [
      | inl p ↦
          settling_zero_yes kept g (numbers is) p ∙ one_pass kept g seen is w s ∙ behind_whole true kept (drop_repeats seen is) p
          ∙ ap (Behind kept) (sym (repeat_whole seen is))
      | inr p ↦
          settling_zero_no kept g (numbers is) p ∙ one_pass (kept ++ (0 ∷ [])) g seen is w (seen_other kept seen 0 (λ i h e. omega arith) s)
          ∙ behind_whole false kept (drop_repeats seen is) p ∙ ap (Behind kept) (sym (repeat_whole seen is))
    ]
one_pass kept g seen (Item.argument i ∷ is) w s =
    settling_argument kept g i (numbers is) w.0
    ∙ elim (either (has i seen)) [
      | inl p ↦
          ap (λ (b : Bool). settling (if b kept (kept ++ (suc i ∷ []))) g (numbers is)) (s i w.0 ∙ p) ∙ one_pass kept g seen is w.1 s
          ∙ ap (Behind kept) (sym (repeat_yes seen i is p))
      | inr p ↦
          ap (λ (b : Bool). settling (if b kept (kept ++ (suc i ∷ []))) g (numbers is)) (s i w.0 ∙ p)
          ∙ one_pass (kept ++ (suc i ∷ [])) g (i ∷ seen) is w.1 (seen_argument kept seen i s)
          ∙ behind_argument kept i (drop_repeats (i ∷ seen) is) ∙ ap (Behind kept) (sym (repeat_no seen i is p))
    ]
one_pass kept g seen (Item.group js ∷ is) w s =
    let us : List ℕ = unseen seen js in
    settling_open kept g (map suc js ++ (9 ∷ numbers is))
    ∙ settling_arguments (kept ++ (8 ∷ [])) (length kept) seen js (9 ∷ numbers is) w.0 (seen_other kept seen 8 (λ i h e. omega arith) s)
    ∙ settling_close ((kept ++ (8 ∷ [])) ++ map suc us) (length kept) (numbers is)
    ∙ ap (λ (l : List ℕ). settling l (length kept) (numbers is))
    (ap (λ (k : List ℕ). closed k (length kept)) (append_snoc kept 8 (map suc us)) ∙ close_group kept (map suc us))
    ∙ one_pass (kept ++ grouped (map suc us)) (length kept) (js ++ seen) is w.1
    (seen_closed kept (js ++ seen) (map suc us) (seen_group kept seen js s))
    ∙ behind_group kept us (drop_repeats (js ++ seen) is) ∙ ap (Behind kept) (sym (repeat_group seen js is))

-- one pass over the numbers of items keeps the numbers of the settled list
pub settles : (a : ℕ) (vs : List ℕ) (is : List Item) → a < 8 → vs ≡ numbers is → ItemsWithin a is → settling [] 0 vs ≡ numbers (settle (items vs))
unfolding has
settles a vs is l e w =
    let w7 = within_more a 7 is (omega arith) w in
    rw e (one_pass [] 0 [] is w7 (λ i h. refl) ∙ ap numbers (sym (settle_merges is) ∙ ap settle (sym (items_numbers is w7))))
