-- The EXITs of a reached state: no two for one part; where a part is done, no order stands for its term. Assumes nothing.
use mathlib.Core.List.{List, [], ◌∷◌, ◌++◌, append_assoc, append-nil}
use mathlib.Core.Logic.{inl, inr}
use mathlib.Core.Path.{◌≡◌, refl, sym, ◌∙◌, ap, subst}
use Prim.Native.Nat.{ℕ, zero, suc, ◌+◌, ◌≤◌}
use native.Mathlib.Omega.{arith}
use Rattle.paper.specs.Tree.{Position}
use Rattle.paper.specs.Strategy.{Step}
use Rattle.paper.specs.Marks.{Cell}
use Rattle.paper.specs.Machine.{Order, orders}
use Rattle.paper.specs.Sound.{In}
use Rattle.paper.proofs.Ghost.{Label, Holder, own, lent, Ghost, rest, todo, work, Ghosts, gnil, gcons, begin, home, Still, Context, plug}
use Rattle.paper.proofs.Invariant.{root_label, all, lab, und, pos, view_at, sum_at}
use Rattle.paper.proofs.Lists.{in_append}
use Rattle.paper.proofs.Locate.{Ready, r_todo, r_work, Spot, redex, leaving, Guest, g_here, g_there, locate_part}
use Rattle.paper.proofs.Moves.{HomeAt, h_here, h_there, begin_width, home_parts, lent_block, lend_parts, guest_work}
use Rattle.paper.proofs.Numbers.{tally, over, tally_append, exits_of, list_exits}
use Rattle.paper.proofs.Tests.{eqb_cases}
use Rattle.paper.proofs.View.{Block, block, list, lists, parts, all_parts, sum, sum_append, lents, Well, w_work, Wells, w_still, w_active, w_lent, w_todo}
use Rattle.flat.proofs.Bounds.{is, is_same, is_most, is_up, is_aside, is_down}
use Rattle.flat.proofs.Places.{stands, load_most}

-- EXITS AT A POSITION

module _ (P : Position) where
  abbrev weigh : Order → ℕ
  weigh = exits_of (λ r j. is P r)

  abbrev ex : Position → Ghost → ℕ
  ex q d = sum (over weigh) (parts q d)

  abbrev exs : Position → ℕ → ℕ → Ghosts → ℕ
  exs q j i ks = sum (over weigh) (all_parts q j i ks)

  unfoldable here : Holder → Position → ℕ
  here own q = 0
  here (lent l) q = is P q

  exs_cons : (q : Position) (j i : ℕ) (m : Holder) (d : Ghost) (ks : Ghosts) → exs q j i (gcons m d ks) ≡ (here m (q ++ (i ∷ [])) + ex (q ++ (i ∷ [])) d) + exs q j (suc i) ks
  unfolding parts sum here tally exits_of
  exs_cons q j i own d ks = omega (arith, sum_append (over weigh) (parts (q ++ (i ∷ [])) d) (all_parts q j (suc i) ks))
  exs_cons q j i (lent l) d ks =
      omega (
        arith,
        sum_append (over weigh) (parts (q ++ (i ∷ [])) d) (all_parts q j (suc i) ks),
        tally_append weigh (list (q ++ (i ∷ [])) d) (Order.exit (q ++ (i ∷ [])) j ∷ []),
        list_exits (λ r j. is P r) (q ++ (i ∷ [])) d,
      )

  here_none : (m : Holder) (q : Position) → is P q ≡ 0 → here m q ≡ 0
  unfolding here
  here_none own q e = refl
  here_none (lent l) q e = e

  here_most : (m : Holder) (q : Position) → here m q ≤ 1
  unfolding here
  here_most own q = omega arith
  here_most (lent l) q = is_most P q

  mutual
    unfolding parts sum

    ex_far : (d : Ghost) (q : Position) → ((i : ℕ) (r : Position) → is P (q ++ (i ∷ r)) ≡ 0) → ex q d ≡ 0
    ex_far (rest t) q f = refl
    ex_far (todo t) q f = refl
    ex_far (work o j ks ss) q f = exs_far ks q j 0 (λ x l r. f x r)

    exs_far : (ks : Ghosts) (q : Position) (j i : ℕ) → ((x : ℕ) → i ≤ x → (r : Position) → is P (q ++ (x ∷ r)) ≡ 0) → exs q j i ks ≡ 0
    exs_far gnil q j i f = refl
    exs_far (gcons m d ks) q j i f =
        omega (
          arith,
          exs_cons q j i m d ks,
          here_none m (q ++ (i ∷ [])) (f i (omega arith) []),
          ex_far d (q ++ (i ∷ [])) (λ x r. ap (is P) (append_assoc q (i ∷ []) (x ∷ r)) ∙ f i (omega arith) (x ∷ r)),
          exs_far ks q j (suc i) (λ x l r. f x (omega (arith, l)) r),
        )

  own_or_below : (m : Holder) (d : Ghost) (q s : Position) → P ≡ q ++ s → ex q d ≤ 1 → here m q + ex q d ≤ 1
  own_or_below m d q [] e l =
      let f : (i : ℕ) (r : Position) → is P (q ++ (i ∷ r)) ≡ 0 = λ i r. ap (λ (z : Position). is P (z ++ (i ∷ r))) (sym (e ∙ append-nil q)) ∙ is_down P i r in
      omega (arith, ex_far d q f, here_most m q)
  own_or_below m d q (k ∷ s) e l = omega (arith, here_none m q (is_up P q k s e), l)

  mutual
    unfolding parts sum

    ex_most : (d : Ghost) (q s : Position) → P ≡ q ++ s → ex q d ≤ 1
    ex_most (rest t) q s e = omega arith
    ex_most (todo t) q s e = omega arith
    ex_most (work o j ks ss) q [] e =
        let f : (i : ℕ) (r : Position) → is P (q ++ (i ∷ r)) ≡ 0 = λ i r. ap (λ (z : Position). is P (z ++ (i ∷ r))) (sym (e ∙ append-nil q)) ∙ is_down P i r in
        omega (arith, exs_far ks q j 0 (λ x l r. f x r))
    ex_most (work o j ks ss) q (k ∷ s) e = exs_most ks q j 0 k s e

    exs_most : (ks : Ghosts) (q : Position) (j i k : ℕ) (s : Position) → P ≡ q ++ (k ∷ s) → exs q j i ks ≤ 1
    exs_most gnil q j i k s e = omega arith
    exs_most (gcons m d ks) q j i k s e =
        elim (eqb_cases k i) [
          | inl y ↦
              (let e' : P ≡ (q ++ (i ∷ [])) ++ s = e ∙ ap (λ (z : ℕ). q ++ (z ∷ s)) y.1 ∙ sym (append_assoc q (i ∷ []) s) in
              let a = exs_far ks q j (suc i) (λ x l r. is_aside P q k x s r e (λ v. (let w = y.1 in omega (arith, v, w, l)))) in
              omega (arith, exs_cons q j i m d ks, a, own_or_below m d (q ++ (i ∷ [])) s e' (ex_most d (q ++ (i ∷ [])) s e')))
          | inr y ↦
              (let f : (r : Position) → is P (q ++ (i ∷ r)) ≡ 0 = λ r. is_aside P q k i s r e y.1 in
              let a = ex_far d (q ++ (i ∷ [])) (λ x r. ap (is P) (append_assoc q (i ∷ []) (x ∷ r)) ∙ f (x ∷ r)) in
              omega (arith, exs_cons q j i m d ks, here_none m (q ++ (i ∷ [])) (f []), a, exs_most ks q j (suc i) k s e))
        ]

  pub exits_most : (D : Ghost) → sum (over weigh) (all D) ≤ 1
  unfolding sum tally exits_of
  exits_most D = omega (arith, tally_append weigh (list [] D) (Order.bingo ∷ []), list_exits (λ r j. is P r) [] D, ex_most D [] P refl)

-- A PART THAT IS DONE

-- argument r, lent and done, as if it were still to be visited
again_wells : {l l' : Label} {r k a : ℕ} {ss : List Step} {ks : Ghosts} → Guest l' r ks → Wells l ss k a ks → Wells l ss k a (begin todo (lent l') r ks)
unfolding begin
again_wells (g_here h) (w_lent s f w ws) = w_lent s f w_todo ws
again_wells (g_there g) (w_still h w) = w_still h (again_wells g w)
again_wells (g_there g) (w_active fr w ws) = w_active fr w (again_wells g ws)
again_wells (g_there g) (w_lent s f w ws) = w_lent s f w (again_wells g ws)

again_lents : {l' : Label} {r : ℕ} {ks : Ghosts} → Guest l' r ks → lents (begin todo (lent l') r ks) ≡ lents ks
unfolding begin lents
again_lents (g_here h) = refl
again_lents (g_there {m = own} g) = again_lents g
again_lents (g_there {m = lent l} g) = ap suc (again_lents g)

again_list : {l' : Label} {r : ℕ} {ks : Ghosts} → Guest l' r ks → (p : Position) (i : ℕ) → lists p i (begin todo (lent l') r ks) ≡ lists p i ks
unfolding begin list
again_list (g_here h) p i = refl
again_list (g_there {m = own} {d = d} g) p i = ap (λ (x : List Order). list (p ++ (i ∷ [])) d ++ x) (again_list g p (suc i))
again_list (g_there {m = lent l} g) p i = again_list g p (suc i)

guest_home : {l' : Label} {r : ℕ} {ks : Ghosts} → Guest l' r ks → HomeAt r (home r ks)
unfolding home
guest_home (g_here h) = h_here h
guest_home (g_there g) = h_there (guest_home g)

again_home : (l' : Label) (r : ℕ) (ks : Ghosts) → begin todo (lent l') r (home r ks) ≡ begin todo (lent l') r ks
unfolding begin home
again_home l' r gnil = refl
again_home l' zero (gcons m d ks) = refl
again_home l' (suc r) (gcons m d ks) = ap (gcons m d) (again_home l' r ks)

again_parts : {l' : Label} {r : ℕ} {ks : Ghosts} → Guest l' r ks → (p : Position) (j : ℕ) (φ : Block → ℕ) →
    sum φ (all_parts p j 0 (begin todo (lent l') r ks)) + φ (block l' (Order.exit (p ++ ((0 + r) ∷ [])) j ∷ []))
    ≡ φ (lent_block l' (p ++ ((0 + r) ∷ [])) j) + sum φ (all_parts p j 0 ks)
again_parts {l'} {r} {ks} g p j φ =
    omega (
      arith,
      lend_parts l' (guest_home g) p j 0 φ,
      home_parts g p j 0 φ,
      ap (λ (z : Ghosts). sum φ (all_parts p j 0 z)) (again_home l' r ks),
    )

again_well : {l l' : Label} {o : Cell} {j r : ℕ} {ks : Ghosts} {ss : List Step} → Guest l' r ks → Well l (work o j ks ss) → Well l (work o j (begin todo (lent l') r ks) ss)
again_well {l' = l'} {r = r} {ks = ks} g (w_work w ok ds wi) = w_work (again_wells g w) (rw (again_lents g) ok) ds (rw (begin_width todo (lent l') r ks) wi)

abbrev load_of : Position → Block → ℕ
load_of q = over (stands (is q))

well_most : (q : Position) (D : Ghost) → Well root_label D → sum (load_of q) (all D) ≤ 1
unfolding sum tally stands
well_most q D w =
    omega (arith, tally_append (stands (is q)) (list [] D) (Order.bingo ∷ []), load_most (is q) q (is_up q) (is_aside q) (is_most q) (is_down q) w [] q refl)

-- where a part is done, no order stands for its term
guest_alone : (C : Context) (o : Cell) (j : ℕ) (ks : Ghosts) (ss : List Step) (l' : Label) (r : ℕ) → Well root_label (plug C (work o j ks ss)) → Guest l' r ks →
    sum (load_of (pos C ++ (r ∷ []))) (all (plug C (work o j ks ss))) ≡ 0
unfolding list parts sum tally stands
guest_alone C o j ks ss l' r w g =
    let X : Ghost = work o j ks ss in
    let Y : Ghost = work o j (begin todo (lent l') r ks) ss in
    let q : Position = pos C ++ (r ∷ []) in
    let φ : Block → ℕ = load_of q in
    let ne : ¬ Still X = λ h. guest_work g h in
    let at₀ = view_at C X w ne in
    let wy : Well root_label (plug C Y) = at₀.outer Y (again_well g at₀.inner) in
    let same : list (pos C) Y ≡ list (pos C) X = ap (λ (z : List Order). z ++ orders j (pos C) ss) (again_list g (pos C) 0) in
    let z : 0 + r ≡ r = omega arith in
    let e : φ (block l' (Order.exit (pos C ++ ((0 + r) ∷ [])) j ∷ [])) ≡ 0 = omega arith in
    let v : φ (lent_block l' (pos C ++ ((0 + r) ∷ [])) j) ≡ is q (pos C ++ ((0 + r) ∷ [])) = omega arith in
    let v₂ : is q (pos C ++ ((0 + r) ∷ [])) ≡ 1 = ap (λ (k : ℕ). is q (pos C ++ (k ∷ []))) z ∙ is_same q in
    omega (
      arith,
      well_most q (plug C Y) wy,
      sum_at C X w ne φ X,
      sum_at C X w ne φ Y,
      ap (λ (os : List Order). φ (block (lab C) (os ++ und C))) same,
      again_parts g (pos C) j φ,
      e,
      v,
      v₂,
    )

-- the block of a part that is done
first_exit : (X : Ghost) → Ready X → (p : Position) (ys : List Order) (q : Position) (n : ℕ) (zs : List Order) → list p X ++ ys ≡ Order.exit q n ∷ zs → ⊥
unfolding list orders
first_exit (rest _) x p ys q n zs e = elim x [ ]
first_exit (todo t) r_todo p ys q n zs e = let z : ◌≡◌ {A = ℕ} 0 1 = cc in omega arith
first_exit (work o j ks []) x p ys q n zs e = elim x [ ]
first_exit (work o j ks (s ∷ ss)) (r_work f) p ys q n zs e =
    go s (subst (λ (z : List Order). (z ++ orders j p (s ∷ ss)) ++ ys ≡ Order.exit q n ∷ zs) (f p 0) e)
  where
    go : (s : Step) → orders j p (s ∷ ss) ++ ys ≡ Order.exit q n ∷ zs → ⊥
    go (Step.visit i) e = let z : ◌≡◌ {A = ℕ} 0 1 = cc in omega arith
    go (Step.fork i) e = let z : ◌≡◌ {A = ℕ} 0 1 = cc in omega arith
    go (Step.join c) e = let z : ◌≡◌ {A = ℕ} 0 1 = cc in omega arith
    go Step.whole e = let z : ◌≡◌ {A = ℕ} 0 1 = cc in omega arith

module _ (D : Ghost) (w : Well root_label D) where
  spot_alone : (x : Block) (q : Position) (n : ℕ) → x.list ≡ Order.exit q n ∷ [] → Spot root_label (Order.bingo ∷ []) [] D x → sum (load_of q) (all D) ≡ 0
  spot_alone x q n e (redex C X ed rd ex) =
      absurd (first_exit X rd (pos C) (und C) q n [] (sym (ap (λ (z : Block). z.list) ex) ∙ e))
  spot_alone x q n e (leaving C o j ks ss l r ed g ex) =
      let a : Order.exit (pos C ++ (r ∷ [])) j ∷ [] ≡ Order.exit q n ∷ [] = sym (ap (λ (z : Block). z.list) ex) ∙ e in
      let b : pos C ++ (r ∷ []) ≡ q = cc in
      subst (λ (z : Position). sum (load_of z) (all D) ≡ 0) b
      (subst (λ (z : Ghost). sum (load_of (pos C ++ (r ∷ []))) (all z) ≡ 0) (sym ed)
      (guest_alone C o j ks ss l r (subst (λ (z : Ghost). Well root_label z) ed w) g))

  root_not : (os : List Order) (q : Position) (n : ℕ) → os ++ (Order.bingo ∷ []) ≡ Order.exit q n ∷ [] → ⊥
  root_not [] q n e = let z : ◌≡◌ {A = ℕ} 0 1 = cc in omega arith
  root_not (o ∷ []) q n e = let z : ◌≡◌ {A = ℕ} 0 1 = cc in omega arith
  root_not (o ∷ o' ∷ os) q n e = let z : ◌≡◌ {A = ℕ} 0 1 = cc in omega arith

  pub done_alone : (x : Block) (q : Position) (n : ℕ) → In x (all D) → x.list ≡ Order.exit q n ∷ [] → sum (load_of q) (all D) ≡ 0
  done_alone x q n (inl e) h = absurd (root_not (list [] D) q n (sym (ap (λ (z : Block). z.list) e) ∙ h))
  done_alone x q n (inr m) h = spot_alone x q n h (locate_part w [] (Order.bingo ∷ []) x m)

-- WHAT ENDS A PART

unfoldable pub ends : Order → ℕ
ends (Order.visit p) = 0
ends (Order.fork p j) = 0
ends (Order.join j c) = 0
ends (Order.exit p j) = 1
ends (Order.whole p b) = 0
ends Order.sleep = 1
ends Order.bingo = 1

orders_ends : (j : ℕ) (p : Position) (ss : List Step) → tally ends (orders j p ss) ≡ 0
unfolding tally orders ends
orders_ends j p [] = refl
orders_ends j p (Step.visit i ∷ ss) = omega (arith, orders_ends j p ss)
orders_ends j p (Step.fork i ∷ ss) = omega (arith, orders_ends j p ss)
orders_ends j p (Step.join c ∷ ss) = omega (arith, orders_ends (suc j) p ss)
orders_ends j p (Step.whole ∷ ss) = omega (arith, orders_ends j p ss)

mutual
  unfolding list tally ends

  list_ends : (d : Ghost) (p : Position) → tally ends (list p d) ≡ 0
  list_ends (rest t) p = refl
  list_ends (todo t) p = refl
  list_ends (work o j ks ss) p = omega (arith, tally_append ends (lists p 0 ks) (orders j p ss), lists_ends ks p 0, orders_ends j p ss)

  lists_ends : (ks : Ghosts) (p : Position) (i : ℕ) → tally ends (lists p i ks) ≡ 0
  lists_ends gnil p i = refl
  lists_ends (gcons own d ks) p i =
      omega (arith, tally_append ends (list (p ++ (i ∷ [])) d) (lists p (suc i) ks), list_ends d (p ++ (i ∷ [])), lists_ends ks p (suc i))
  lists_ends (gcons (lent l) d ks) p i = lists_ends ks p (suc i)

-- a block's last order ends its part, and no other of its orders does
abbrev pub Closed : Block → Type 0
Closed x = (e : Order) × (xs : List Order) × (x.list ≡ xs ++ (e ∷ [])) × (tally ends xs ≡ 0)

mutual
  unfolding parts

  part_closed : (d : Ghost) (p : Position) (x : Block) → In x (parts p d) → Closed x
  part_closed (rest t) p x h = absurd h
  part_closed (todo t) p x h = absurd h
  part_closed (work o j ks ss) p x h = parts_closed ks p j 0 x h

  parts_closed : (ks : Ghosts) (p : Position) (j i : ℕ) (x : Block) → In x (all_parts p j i ks) → Closed x
  parts_closed gnil p j i x h = absurd h
  parts_closed (gcons own d ks) p j i x h =
      elim (in_append x (parts (p ++ (i ∷ [])) d) (all_parts p j (suc i) ks) h) [
        | inl m ↦ part_closed d (p ++ (i ∷ [])) x m
        | inr m ↦ parts_closed ks p j (suc i) x m
      ]
  parts_closed (gcons (lent l) d ks) p j i x (inl e) =
      (Order.exit (p ++ (i ∷ [])) j, list (p ++ (i ∷ [])) d, ap (λ (z : Block). z.list) e, list_ends d (p ++ (i ∷ [])))
  parts_closed (gcons (lent l) d ks) p j i x (inr h) =
      elim (in_append x (parts (p ++ (i ∷ [])) d) (all_parts p j (suc i) ks) h) [
        | inl m ↦ part_closed d (p ++ (i ∷ [])) x m
        | inr m ↦ parts_closed ks p j (suc i) x m
      ]

pub block_closed : (D : Ghost) (x : Block) → In x (all D) → Closed x
block_closed D x (inl e) = (Order.bingo, list [] D, ap (λ (z : Block). z.list) e, list_ends D [])
block_closed D x (inr m) = part_closed D [] x m
