-- A state that keeps the rules of its tables stands for a ghost term: each symbol's entry says whether it is at rest, to be visited or in work, and whether it is
-- lent. So the paper's invariant holds of it. Assumes nothing.
use mathlib.Core.Bool.{Bool, true, false, true≢false}
use mathlib.Core.List.{List, [], ◌∷◌, ◌++◌, map, append_assoc, append-nil}
use mathlib.Core.Logic.{inl, inr, ◌≢◌}
use mathlib.Core.Option.{Option, none, some, none-ne-some}
use mathlib.Core.Path.{◌≡◌, refl, sym, ◌∙◌, ap, ap₂, subst}
use Prim.Native.Nat.{ℕ, zero, suc, ◌+◌, ◌<◌, ◌≤◌}
use native.Mathlib.Nat.{add-zero, zero-add}
use native.Mathlib.Omega.{arith}
use lib.Dec.{eqb, ltb}
use lib.ListN.{drop}
use Rattle.paper.specs.Tree.{node, Forest, nil, cons, label, arguments, count, pick, size, sizes, Position, subterm, Correct, Corrects}
use Rattle.paper.specs.Strategy.{Step}
use Rattle.paper.specs.Book.{Term, Book, arity, steps}
use Rattle.paper.specs.Marks.{Cell, cell, Marked}
use Rattle.paper.specs.Machine.{Order, orders}
use Rattle.paper.specs.Sound.{Unnamed, Distinct, Within, Sound}
use Rattle.paper.proofs.Ghost.{Label, Holder, own, lent, Ghost, rest, todo, work, Ghosts, gnil, gcons, erase, erases, Still, s_rest}
use Rattle.paper.proofs.Moves.{steps_counted}
use Rattle.paper.proofs.Invariant.{root_label, all}
use Rattle.paper.proofs.Stack
use Rattle.paper.proofs.Stack.{bottom, list_same, list_other, list_none, Labels, Under, Owned, owners, Sorted, Same}
use Rattle.paper.proofs.Tests.{eqb_cases, eqb_true, eqb_false, eqb_equal, ltb_cases, ltb_true, ltb_false}
use Rattle.paper.proofs.Trees.{subterm_append}
use Rattle.paper.proofs.View.{Block, block, list, lists, parts, all_parts, sum, sum_append, Counted, lents, width, Well, w_rest, w_todo, w_work, Wells, w_nil, w_still, w_active, w_lent, quiet_list}
use Rattle.flat.specs.Rules.{InGroup, forks_left}
use Rattle.flat.specs.Relation.{Valid, offset, offsets, Rooted, recount, Placed, list_of, GoodFrames}
use Rattle.flat.proofs.Tables.{Kind, Tables, Pending, pending, one, lent_in, Argument, ArgumentAt, SymbolOf, SymbolAt, Links, Begins, Stands, Before, Ordered, listed, of_unit, exits_of}
use Rattle.flat.proofs.Bounds.{offset_unique}
use Rattle.flat.proofs.Offsets.{offset_inside, offset_append, valid_append, correct_subterm}
use Rattle.flat.proofs.Steps.{Shape, Settled, shape_drop, within_drop, distinct_drop}

-- STEPS

pub counted_drop : (k m : ℕ) (ss : List Step) → Counted m ss → (n : ℕ) × Counted n (drop k ss)
counted_drop zero m ss h = (m, h)
counted_drop (suc k) m [] h = (m, h)
counted_drop (suc k) m (Step.visit i ∷ ss) h = counted_drop k m ss h
counted_drop (suc k) m (Step.fork i ∷ ss) h = counted_drop k (suc m) ss h
counted_drop (suc k) m (Step.join c ∷ ss) h = counted_drop k 0 ss h.1
counted_drop (suc k) m (Step.whole ∷ ss) h = counted_drop k 0 ss h.1

-- the next JOIN counts its FORKs and n parts besides
counted_recount : (m n c : ℕ) (ss : List Step) → Shape ss → Counted m ss → (1 ≤ n → InGroup ss) → c ≡ forks_left ss + n → Counted n (recount c ss)
unfolding forks_left recount
counted_recount m zero c [] sh h g e = refl
counted_recount m (suc n) c [] sh h g e = absurd (g (omega arith))
counted_recount m n c (Step.visit i ∷ ss) sh h g e = counted_recount m n c ss sh.1 h g e
counted_recount m n c (Step.fork i ∷ ss) sh h g e = counted_recount (suc m) (suc n) c ss sh.1 h (λ _. sh.0) (omega (arith, e))
counted_recount m n c (Step.join d ∷ ss) sh h g e = (omega (arith, e), h.1)
counted_recount m zero c (Step.whole ∷ ss) sh h g e = (refl, counted_recount 0 0 c ss sh h.1 (λ l. absurd (omega (arith, l))) e)
counted_recount m (suc n) c (Step.whole ∷ ss) sh h g e = absurd (g (omega arith))

recount_unnamed : (c x : ℕ) (ss : List Step) → Unnamed x ss → Unnamed x (recount c ss)
unfolding recount
recount_unnamed c x [] h = h
recount_unnamed c x (Step.visit i ∷ ss) h = (h.0, recount_unnamed c x ss h.1)
recount_unnamed c x (Step.fork i ∷ ss) h = (h.0, recount_unnamed c x ss h.1)
recount_unnamed c x (Step.join d ∷ ss) h = h
recount_unnamed c x (Step.whole ∷ ss) h = recount_unnamed c x ss h

recount_distinct : (c : ℕ) (ss : List Step) → Distinct ss → Distinct (recount c ss)
unfolding recount
recount_distinct c [] h = h
recount_distinct c (Step.visit i ∷ ss) h = (recount_unnamed c i ss h.0, recount_distinct c ss h.1)
recount_distinct c (Step.fork i ∷ ss) h = (recount_unnamed c i ss h.0, recount_distinct c ss h.1)
recount_distinct c (Step.join d ∷ ss) h = h
recount_distinct c (Step.whole ∷ ss) h = recount_distinct c ss h

recount_within : (c n : ℕ) (ss : List Step) → Within n ss → Within n (recount c ss)
unfolding recount
recount_within c n [] h = h
recount_within c n (Step.visit i ∷ ss) h = (h.0, recount_within c n ss h.1)
recount_within c n (Step.fork i ∷ ss) h = (h.0, recount_within c n ss h.1)
recount_within c n (Step.join d ∷ ss) h = h
recount_within c n (Step.whole ∷ ss) h = recount_within c n ss h

-- THE GHOST TERM

unfoldable holder : ℕ → ℕ → Holder
holder zero u = own
holder (suc n) u = lent (record { stamp = suc n; owner = u })

-- a term with the marks that stand at its symbols' offsets, its first symbol at offset a
unfoldable mutual
  unfolding size

  pub dress : (ℕ → Bool) → ℕ → Term → Marked
  dress M a (node o ts) = node (cell (M a) o) (dresses M (suc a) ts)

  pub dresses : (ℕ → Bool) → ℕ → Forest ℕ → Forest Cell
  dresses M a nil = nil
  dresses M a (cons x xs) = cons (dress M a x) (dresses M (a + size x) xs)

unfoldable as_kind : Book → Kind → Bool → ℕ → Forest Cell → Ghosts → Ghost
as_kind B Kind.resting m o us ks = rest (node (cell m o) us)
as_kind B Kind.fresh m o us ks = todo (node (cell m o) us)
as_kind B (Kind.underway k c j) m o us ks = work (cell m o) j ks (recount c (drop k (steps B o)))

module _ (B : Book) (M : ℕ → Bool) (T : Tables) where
  unfoldable mutual
    unfolding as_kind holder dress

    pub ghost : ℕ → Term → Ghost
    ghost a (node o ts) = as_kind B (T.kind a) (M a) o (dresses M (suc a) ts) (ghosts (suc a) ts)

    pub ghosts : ℕ → Forest ℕ → Ghosts
    ghosts a nil = gnil
    ghosts a (cons x xs) = gcons (holder (T.stamp a) (T.owner a)) (ghost a x) (ghosts (a + size x) xs)

  erase_as : (k : Kind) (m : Bool) (o : ℕ) (us : Forest Cell) (ks : Ghosts) → erases ks ≡ us → erase (as_kind B k m o us ks) ≡ node (cell m o) us
  unfolding erase as_kind
  erase_as Kind.resting m o us ks e = refl
  erase_as Kind.fresh m o us ks e = refl
  erase_as (Kind.underway k c j) m o us ks e = ap (node (cell m o)) e

  mutual
    unfolding ghost erase dress

    pub erase_ghost : (a : ℕ) (x : Term) → erase (ghost a x) ≡ dress M a x
    erase_ghost a (node o ts) = erase_as (T.kind a) (M a) o (dresses M (suc a) ts) (ghosts (suc a) ts) (erases_ghosts (suc a) ts)

    erases_ghosts : (a : ℕ) (ts : Forest ℕ) → erases (ghosts a ts) ≡ dresses M a ts
    erases_ghosts a nil = refl
    erases_ghosts a (cons x xs) = ap₂ cons (erase_ghost a x) (erases_ghosts (a + size x) xs)

  ghost_rest : (a : ℕ) (x : Term) → T.kind a ≡ Kind.resting → ghost a x ≡ rest (dress M a x)
  unfolding ghost dress
  ghost_rest a (node o ts) e = ap (λ (k : Kind). as_kind B k (M a) o (dresses M (suc a) ts) (ghosts (suc a) ts)) e

  holder_lents : (n u : ℕ) (d : Ghost) (ks : Ghosts) → lents (gcons (holder n u) d ks) ≡ one n + lents ks
  unfolding holder lents one
  holder_lents zero u d ks = omega arith
  holder_lents (suc n) u d ks = omega arith

  ghosts_lents : (b : ℕ) (ts : Forest ℕ) → lents (ghosts b ts) ≡ lent_in T.stamp b ts
  unfolding ghosts lents lent_in
  ghosts_lents b nil = refl
  ghosts_lents b (cons x xs) =
      omega (arith, holder_lents (T.stamp b) (T.owner b) (ghost b x) (ghosts (b + size x) xs), ghosts_lents (b + size x) xs)

  ghosts_width : (b : ℕ) (ts : Forest ℕ) → width (ghosts b ts) ≡ count ts
  unfolding ghosts width count
  ghosts_width b nil = refl
  ghosts_width b (cons x xs) = ap suc (ghosts_width (b + size x) xs)

-- PLACES

module _ (t : Term) where
  -- the terms xs are the arguments from m on of the term at p, and stand from offset b on
  abbrev pub Link : Position → ℕ → ℕ → Forest ℕ → Type 0
  Link p m b nil = Unit {0}
  Link p m b (cons x xs) = Valid (p ++ (m ∷ [])) t × (offset (p ++ (m ∷ [])) t ≡ b) × (subterm (p ++ (m ∷ [])) t ≡ x) × Link p (suc m) (b + size x) xs

  abbrev pub Spot : Position → ℕ → ℕ → Term → Type 0
  Spot p m b x = Valid (p ++ (m ∷ [])) t × (offset (p ++ (m ∷ [])) t ≡ b) × (subterm (p ++ (m ∷ [])) t ≡ x)

  link_go : (d : Term) (p : Position) (m b : ℕ) (xs : Forest ℕ) → ((x : ℕ) → x < count xs → Spot p (m + x) (b + offsets (offset []) x xs) (pick d x xs)) → Link p m b xs
  unfolding count offsets pick offset
  link_go d p m b nil h = tt
  link_go d p m b (cons x xs) h =
      let a = h 0 (omega arith) in
      let e : m + 0 ≡ m = omega arith in
      let s : Spot p m (b + 0) x = subst (λ (z : ℕ). Spot p z (b + 0) x) e a in
      (s.0, s.1 ∙ add-zero b, s.2, link_go d p (suc m) (b + size x) xs (λ y l. further y (h (suc y) (omega (arith, l)))))
    where
      further : (y : ℕ) → Spot p (m + suc y) (b + (size x + offsets (offset []) y xs)) (pick d y xs) → Spot p (suc m + y) ((b + size x) + offsets (offset []) y xs) (pick d y xs)
      further y s =
          let e₁ : m + suc y ≡ suc m + y = omega arith in
          let e₂ : b + (size x + offsets (offset []) y xs) ≡ (b + size x) + offsets (offset []) y xs = omega arith in
          subst (λ (z : ℕ). Spot p z ((b + size x) + offsets (offset []) y xs) (pick d y xs)) e₁
          (subst (λ (z : ℕ). Spot p (m + suc y) z (pick d y xs)) e₂ s)

  pub link_node : (p : Position) (o : ℕ) (ts : Forest ℕ) → Valid p t → subterm p t ≡ node o ts → Link p 0 (suc (offset p t)) ts
  link_node p o ts v e = link_go (subterm p t) p 0 (suc (offset p t)) ts (λ x l. spot x l)
    where
      args : arguments (subterm p t) ≡ ts
      args = ap arguments e ∙ unfold arguments in refl

      spot : (x : ℕ) → x < count ts → Spot p (0 + x) (suc (offset p t) + offsets (offset []) x ts) (pick (subterm p t) x ts)
      spot x l =
          let z : 0 + x ≡ x = omega arith in
          let i : x < count (arguments (subterm p t)) = subst (λ (f : Forest ℕ). x < count f) (sym args) l in
          let f : offset (x ∷ []) (subterm p t) ≡ suc (offsets (offset []) x ts) = unfold offset in ap (λ (f : Forest ℕ). suc (offsets (offset []) x f)) args in
          let part : subterm (p ++ (x ∷ [])) t ≡ pick (subterm p t) x (arguments (subterm p t)) = unfold subterm in subterm_append p (x ∷ []) t in
          subst (λ (k : ℕ). Spot p k (suc (offset p t) + offsets (offset []) x ts) (pick (subterm p t) x ts)) (sym z)
          (valid_append p x t v i, omega (arith, offset_append p x t v, f), part ∙ ap (pick (subterm p t) x) args)

-- WELL FORMED

module _ (B : Book) (sound : Sound B) (settled : Settled B) (M : ℕ → Bool) (T : Tables) (t : Term) (correct : Correct (arity B) t) where
  -- the argument m, whose ghost is d, before the arguments ks
  kid_wells : (l : Label) (p : Position) (m b j u : ℕ) (ss₀ ss : List Step) (d : Ghost) (ks : Ghosts) (n : ℕ) (z : Bool) → eqb (T.active (offset p t)) (suc m) ≡ z →
      l.stamp ≡ T.part (offset p t) → ((x : ℕ) → Unnamed x ss₀ → Unnamed x ss) → Argument B T t n z (offset p t) b j m ss₀ →
      ((l' : Label) → l'.stamp ≡ T.part b → Well l' d) → (T.kind b ≡ Kind.resting → Still d) → (a : ℕ) × Wells l ss (suc m) a ks →
      (T.active (offset p t) ≤ suc m → Wells l ss (suc m) 0 ks) → (a : ℕ) × Wells l ss m a (gcons (holder n u) d ks)
  unfolding holder
  kid_wells l p m b j u ss₀ ss d ks (suc n) z e q g h w r ws k =
      let x = h.0 in
      let y : l.stamp < suc n = omega (arith, x, q) in
      (ws.0, w_lent {l' = record { stamp = suc n; owner = u }} y (g m h.3) (w (record { stamp = suc n; owner = u }) (sym h.1)) ws.1)
  kid_wells l p m b j u ss₀ ss d ks zero true e q g h w r ws k =
      let x : T.active (offset p t) ≡ suc m = eqb_equal (T.active (offset p t)) (suc m) e in
      (1, w_active (g m h.2) (w l (q ∙ sym h.1)) (k (omega (arith, x))))
  kid_wells l p m b j u ss₀ ss d ks zero false e q g h w r ws k = (ws.0, w_still (r h) ws.1)

  kid_quiet : (l : Label) (p : Position) (m b j u : ℕ) (ss₀ ss : List Step) (d : Ghost) (ks : Ghosts) (n : ℕ) (z : Bool) → eqb (T.active (offset p t)) (suc m) ≡ z →
      l.stamp ≡ T.part (offset p t) → ((x : ℕ) → Unnamed x ss₀ → Unnamed x ss) → Argument B T t n z (offset p t) b j m ss₀ →
      ((l' : Label) → l'.stamp ≡ T.part b → Well l' d) → (T.kind b ≡ Kind.resting → Still d) → T.active (offset p t) ≤ m → Wells l ss (suc m) 0 ks →
      Wells l ss m 0 (gcons (holder n u) d ks)
  unfolding holder
  kid_quiet l p m b j u ss₀ ss d ks (suc n) z e q g h w r k ws =
      let x = h.0 in
      let y : l.stamp < suc n = omega (arith, x, q) in
      w_lent {l' = record { stamp = suc n; owner = u }} y (g m h.3) (w (record { stamp = suc n; owner = u }) (sym h.1)) ws
  kid_quiet l p m b j u ss₀ ss d ks zero true e q g h w r k ws =
      absurd (let x : T.active (offset p t) ≡ suc m = eqb_equal (T.active (offset p t)) (suc m) e in omega (arith, x, k))
  kid_quiet l p m b j u ss₀ ss d ks zero false e q g h w r k ws = w_still (r h) ws

  -- the rule of each argument from m on
  abbrev Arguments : Position → ℕ → ℕ → ℕ → List Step → Type 0
  Arguments p m n j ss = (i : ℕ) → m ≤ i → i < m + n → ArgumentAt B T t p i j ss

  further : (p : Position) (m n j : ℕ) (ss : List Step) → Arguments p m (suc n) j ss → Arguments p (suc m) n j ss
  further p m n j ss h i a b = h i (omega (arith, a)) (omega (arith, b))

  first : (p : Position) (m b n j : ℕ) (ss : List Step) → Arguments p m (suc n) j ss → offset (p ++ (m ∷ [])) t ≡ b →
      Argument B T t (T.stamp b) (eqb (T.active (offset p t)) (suc m)) (offset p t) b j m ss
  first p m b n j ss h e =
      subst (λ (z : ℕ). Argument B T t (T.stamp z) (eqb (T.active (offset p t)) (suc m)) (offset p t) z j m ss) e (h m (omega arith) (omega arith))

  rest_still : (b : ℕ) (x : Term) → T.kind b ≡ Kind.resting → Still (ghost B M T b x)
  rest_still b x e = subst Still (sym (ghost_rest B M T b x e)) s_rest

  module _ (rule : (p : Position) → Valid p t → SymbolAt B T t p) where
    -- a term whose entry is k, where its arguments are well formed
    well_as : (k : Kind) (o : ℕ) (ts : Forest ℕ) (p : Position) → SymbolOf B T t k p (node o ts) → Correct (arity B) (node o ts) → (l : Label) →
        ((j : ℕ) (ss₀ ss : List Step) → ((x : ℕ) → Unnamed x ss₀ → Unnamed x ss) → Arguments p 0 (count ts) j ss₀ → (a : ℕ) × Wells l ss 0 a (ghosts B M T (suc (offset p t)) ts)) →
        Well l (as_kind B k (M (offset p t)) o (dresses M (suc (offset p t)) ts) (ghosts B M T (suc (offset p t)) ts))
    unfolding as_kind label arguments
    well_as Kind.resting o ts p r c l w = w_rest
    well_as Kind.fresh o ts p r c l w = w_todo
    well_as (Kind.underway k c j) o ts p r cr l w =
        let ss : List Step = drop k (steps B o) in
        let (a, ws) = w j ss (recount c ss) (λ x h. recount_unnamed c x ss h) (λ i m n. r.2 i (omega (arith, n))) in
        let (m, cd) = counted_drop k 0 (steps B o) (steps_counted B o) in
        w_work ws
        (subst (λ (n : ℕ). Counted n (recount c ss)) (sym (ghosts_lents B M T (suc (offset p t)) ts))
        (counted_recount m (lent_in T.stamp (suc (offset p t)) ts) c ss (shape_drop k (steps B o) (settled o)) cd r.1 r.0))
        (recount_distinct c ss (distinct_drop k (steps B o) (sound.distinct o)))
        (subst (λ (n : ℕ). Within n (recount c ss)) (sym (ghosts_width B M T (suc (offset p t)) ts ∙ cr.0))
        (recount_within c (arity B o) ss (within_drop (arity B o) k (steps B o) (sound.within o))))

    mutual
      unfolding ghost count

      pub well_tree : (x : Term) (p : Position) → Valid p t → subterm p t ≡ x → Correct (arity B) x → (l : Label) → l.stamp ≡ T.part (offset p t) →
          Well l (ghost B M T (offset p t) x)
      well_tree (node o ts) p v e c l q =
          well_as (T.kind (offset p t)) o ts p (subst (SymbolOf B T t (T.kind (offset p t)) p) e (rule p v)) c l
          (λ j ss₀ ss g h. wells_in ts p 0 (suc (offset p t)) j ss₀ ss (link_node t p o ts v e) c.1 l q g h)

      wells_in : (ts : Forest ℕ) (p : Position) (m b j : ℕ) (ss₀ ss : List Step) → Link t p m b ts → Corrects (arity B) ts → (l : Label) → l.stamp ≡ T.part (offset p t) →
          ((x : ℕ) → Unnamed x ss₀ → Unnamed x ss) → Arguments p m (count ts) j ss₀ → (a : ℕ) × Wells l ss m a (ghosts B M T b ts)
      wells_in nil p m b j ss₀ ss k c l q g h = (0, w_nil)
      wells_in (cons x xs) p m b j ss₀ ss k c l q g h =
          kid_wells l p m b j (T.owner b) ss₀ ss (ghost B M T b x) (ghosts B M T (b + size x) xs) (T.stamp b) (eqb (T.active (offset p t)) (suc m)) refl q g
          (first p m b (count xs) j ss₀ h k.1)
          (λ l' q'. subst (λ (z : ℕ). Well l' (ghost B M T z x)) k.1 (well_tree x (p ++ (m ∷ [])) k.0 k.2 c.0 l' (q' ∙ ap T.part (sym k.1))))
          (rest_still b x)
          (wells_in xs p (suc m) (b + size x) j ss₀ ss k.3 c.1 l q g (further p m (count xs) j ss₀ h))
          (λ y. wells_quiet xs p (suc m) (b + size x) j ss₀ ss k.3 c.1 l q g (further p m (count xs) j ss₀ h) y)

      wells_quiet : (ts : Forest ℕ) (p : Position) (m b j : ℕ) (ss₀ ss : List Step) → Link t p m b ts → Corrects (arity B) ts → (l : Label) → l.stamp ≡ T.part (offset p t) →
          ((x : ℕ) → Unnamed x ss₀ → Unnamed x ss) → Arguments p m (count ts) j ss₀ → T.active (offset p t) ≤ m → Wells l ss m 0 (ghosts B M T b ts)
      wells_quiet nil p m b j ss₀ ss k c l q g h y = w_nil
      wells_quiet (cons x xs) p m b j ss₀ ss k c l q g h y =
          kid_quiet l p m b j (T.owner b) ss₀ ss (ghost B M T b x) (ghosts B M T (b + size x) xs) (T.stamp b) (eqb (T.active (offset p t)) (suc m)) refl q g
          (first p m b (count xs) j ss₀ h k.1)
          (λ l' q'. subst (λ (z : ℕ). Well l' (ghost B M T z x)) k.1 (well_tree x (p ++ (m ∷ [])) k.0 k.2 c.0 l' (q' ∙ ap T.part (sym k.1))))
          (rest_still b x) y
          (wells_quiet xs p (suc m) (b + size x) j ss₀ ss k.3 c.1 l q g (further p m (count xs) j ss₀ h) (omega (arith, y)))

    -- THE PARTS

    -- the block of a pending part
    pub block_of : Pending → Block
    block_of x =
        let q = x.position in
        block (record { stamp = T.stamp (offset q t); owner = T.owner (offset q t) }) (list q (ghost B M T (offset q t) (subterm q t)) ++ (Order.exit q x.number ∷ []))

    -- over the pending parts whose offset is below hi
    unfoldable below : (Block → ℕ) → ℕ → List Pending → ℕ
    unfolding block_of
    below φ hi [] = 0
    below φ hi (x ∷ xs) = elim (ltb (offset x.position t) hi) [ true ↦ φ (block_of x) + below φ hi xs | false ↦ below φ hi xs ]

    below_in : (φ : Block → ℕ) (hi : ℕ) (x : Pending) (xs : List Pending) → offset x.position t < hi → below φ hi (x ∷ xs) ≡ φ (block_of x) + below φ hi xs
    unfolding below
    below_in φ hi x xs l = rw (ltb_true (offset x.position t) hi l, below)

    below_out : (φ : Block → ℕ) (hi : ℕ) (x : Pending) (xs : List Pending) → hi ≤ offset x.position t → below φ hi (x ∷ xs) ≡ below φ hi xs
    unfolding below
    below_out φ hi x xs l = rw (ltb_false (offset x.position t) hi l, below)

    listed_none : (b : ℕ) → listed B T t b [] ≡ 0
    unfolding listed
    listed_none b = refl

    listed_here : (b : ℕ) (x : Pending) (xs : List Pending) → offset x.position t ≡ b → listed B T t b (x ∷ xs) ≡ suc (listed B T t b xs)
    unfolding listed
    listed_here b x xs e = rw (eqb_true (offset x.position t) b e, listed)

    listed_past : (b : ℕ) (x : Pending) (xs : List Pending) → offset x.position t ≢ b → listed B T t b (x ∷ xs) ≡ listed B T t b xs
    unfolding listed
    listed_past b x xs e = rw (eqb_false (offset x.position t) b e, listed)

    -- an entry that isn't at b counts below b just if below suc b
    below_past : (φ : Block → ℕ) (b : ℕ) (x : Pending) (xs : List Pending) (y : ℕ) → offset x.position t ≢ b → below φ (suc b) xs ≡ y + below φ b xs →
        below φ (suc b) (x ∷ xs) ≡ y + below φ b (x ∷ xs)
    below_past φ b x xs y ne e =
        elim (ltb_cases (offset x.position t) b) [
          | inl l ↦ (let k = l.1 in omega (arith, e, below_in φ b x xs k, below_in φ (suc b) x xs (omega (arith, k))))
          | inr l ↦ (let k = l.1 in omega (arith, e, below_out φ b x xs k, below_out φ (suc b) x xs (omega (arith, k, ne))))
        ]

    below_none : (φ : Block → ℕ) (b : ℕ) (xs : List Pending) → listed B T t b xs ≡ 0 → below φ (suc b) xs ≡ 0 + below φ b xs
    below_none φ b [] e = unfold below in omega arith
    below_none φ b (x ∷ xs) e =
        elim (eqb_cases (offset x.position t) b) [
          | inl p ↦ absurd (let a = listed_here b x xs p.1 in omega (arith, a, e))
          | inr p ↦ below_past φ b x xs 0 p.1 (below_none φ b xs (sym (listed_past b x xs p.1) ∙ e))
        ]

    below_one : (φ : Block → ℕ) (units b : ℕ) (q : Position) (j : ℕ) (xs : List Pending) → Ordered B T t units xs → Valid q t → offset q t ≡ b → T.join b ≡ j → listed B T t b xs ≡ 1 →
        below φ (suc b) xs ≡ φ (block_of (pending q j)) + below φ b xs
    below_one φ units b q j [] o v e k n = absurd (let z = listed_none b in omega (arith, z, n))
    below_one φ units b q j (x ∷ xs) o v e k n =
        elim (eqb_cases (offset x.position t) b) [
          | inl p ↦
              (let a = listed_here b x xs p.1 in
              let z = below_none φ b xs (omega (arith, a, n)) in
              let l = p.1 in
              let s : φ (block_of x) ≡ φ (block_of (pending q j)) = ap φ (same (offset_unique x.position q t o.0 v (p.1 ∙ sym e)) (sym o.2 ∙ ap T.join p.1 ∙ k)) in
              omega (arith, z, s, below_in φ (suc b) x xs (omega (arith, l)), below_out φ b x xs (omega (arith, l))))
          | inr p ↦ below_past φ b x xs (φ (block_of (pending q j))) p.1 (below_one φ units b q j xs o.5 v e k (sym (listed_past b x xs p.1) ∙ n))
        ]
      where
        same : x.position ≡ q → x.number ≡ j → block_of x ≡ block_of (pending q j)
        same e₁ e₂ = ap₂ (λ (z : Position) (y : ℕ). block_of (pending z y)) e₁ e₂

    module _ (units : ℕ) (es : List Pending) (ordered : Ordered B T t units es) (found : (b : ℕ) → listed B T t b es ≡ one (T.stamp b)) where
      abbrev Z : (Block → ℕ) → ℕ → ℕ
      Z φ hi = below φ hi es

      own_step : (φ : Block → ℕ) (b : ℕ) → T.stamp b ≡ 0 → Z φ (suc b) ≡ Z φ b
      unfolding one
      own_step φ b e = omega (arith, below_none φ b es (found b ∙ ap one e))

      lent_step : (φ : Block → ℕ) (q : Position) (b j n : ℕ) → Valid q t → offset q t ≡ b → T.join b ≡ j → T.stamp b ≡ suc n →
          Z φ (suc b) ≡ φ (block_of (pending q j)) + Z φ b
      unfolding one
      lent_step φ q b j n v e k h = below_one φ units b q j es ordered v e k (found b ∙ ap one h)

      -- the parts of one argument, and of those behind it
      kid_parts : (φ : Block → ℕ) (p : Position) (m b j : ℕ) (ss : List Step) (x : Term) (ks : Ghosts) (hi n : ℕ) (z : Bool) → T.stamp b ≡ n → Spot t p m b x →
          Argument B T t n z (offset p t) b j m ss → sum φ (parts (p ++ (m ∷ [])) (ghost B M T b x)) + Z φ (suc b) ≡ Z φ (b + size x) →
          sum φ (all_parts p j (suc m) ks) + Z φ (b + size x) ≡ hi → sum φ (all_parts p j m (gcons (holder n (T.owner b)) (ghost B M T b x) ks)) + Z φ b ≡ hi
      unfolding holder parts sum block_of
      kid_parts φ p m b j ss x ks hi zero z e s h a r =
          omega (arith, own_step φ b e, a, r, sum_append φ (parts (p ++ (m ∷ [])) (ghost B M T b x)) (all_parts p j (suc m) ks))
      kid_parts φ p m b j ss x ks hi (suc n) z e s h a r =
          let q : Position = p ++ (m ∷ []) in
          let same : block_of (pending q j) ≡ block (record { stamp = suc n; owner = T.owner b }) (list q (ghost B M T b x) ++ (Order.exit q j ∷ [])) =
          ap₂ (λ (c : ℕ) (y : Term). block (record { stamp = T.stamp c; owner = T.owner c }) (list q (ghost B M T c y) ++ (Order.exit q j ∷ []))) s.1 s.2
          ∙ ap (λ (k : ℕ). block (record { stamp = k; owner = T.owner b }) (list q (ghost B M T b x) ++ (Order.exit q j ∷ []))) e in
          let st = lent_step φ q b j n s.0 s.1 h.2 e in
          omega (arith, st, ap φ same, a, r, sum_append φ (parts q (ghost B M T b x)) (all_parts p j (suc m) ks))

      abbrev Bares : Position → ℕ → ℕ → Type 0
      Bares p m n = (i : ℕ) → m ≤ i → i < m + n → (T.stamp (offset (p ++ (i ∷ [])) t) ≡ 0) × (T.kind (offset (p ++ (i ∷ [])) t) ≡ Kind.resting)

      parts_as : (φ : Block → ℕ) (k : Kind) (o : ℕ) (ts : Forest ℕ) (p : Position) (lo hi : ℕ) → SymbolOf B T t k p (node o ts) →
          ((j : ℕ) (ss : List Step) → Arguments p 0 (count ts) j ss → sum φ (all_parts p j 0 (ghosts B M T (suc (offset p t)) ts)) + lo ≡ hi) →
          (Bares p 0 (count ts) → lo ≡ hi) → sum φ (parts p (as_kind B k (M (offset p t)) o (dresses M (suc (offset p t)) ts) (ghosts B M T (suc (offset p t)) ts))) + lo ≡ hi
      unfolding as_kind parts sum label arguments
      parts_as φ Kind.resting o ts p lo hi r w e = omega (arith, e (λ i m n. r i (omega (arith, n))))
      parts_as φ Kind.fresh o ts p lo hi r w e = omega (arith, e (λ i m n. r i (omega (arith, n))))
      parts_as φ (Kind.underway k c j) o ts p lo hi r w e = w j (drop k (steps B o)) (λ i m n. r.2 i (omega (arith, n)))

      parts_rest : (φ : Block → ℕ) (b : ℕ) (x : Term) (q : Position) → T.kind b ≡ Kind.resting → sum φ (parts q (ghost B M T b x)) + Z φ (suc b) ≡ Z φ (b + size x) →
          Z φ (suc b) ≡ Z φ (b + size x)
      unfolding parts sum
      parts_rest φ b x q e h = let z : sum φ (parts q (ghost B M T b x)) ≡ 0 = ap (λ (d : Ghost). sum φ (parts q d)) (ghost_rest B M T b x e) in omega (arith, h, z)

      mutual
        unfolding ghost count size parts sum

        parts_tree : (φ : Block → ℕ) (x : Term) (p : Position) → Valid p t → subterm p t ≡ x →
            sum φ (parts p (ghost B M T (offset p t) x)) + Z φ (suc (offset p t)) ≡ Z φ (offset p t + size x)
        parts_tree φ (node o ts) p v e =
            let n : suc (offset p t) + sizes ts ≡ offset p t + suc (sizes ts) = omega arith in
            parts_as φ (T.kind (offset p t)) o ts p (Z φ (suc (offset p t))) (Z φ (offset p t + suc (sizes ts)))
            (subst (SymbolOf B T t (T.kind (offset p t)) p) e (rule p v))
            (λ j ss h. parts_in φ ts p 0 (suc (offset p t)) j ss (link_node t p o ts v e) h ∙ ap (Z φ) n)
            (λ h. bare_in φ ts p 0 (suc (offset p t)) (link_node t p o ts v e) h ∙ ap (Z φ) n)

        parts_in : (φ : Block → ℕ) (ts : Forest ℕ) (p : Position) (m b j : ℕ) (ss : List Step) → Link t p m b ts → Arguments p m (count ts) j ss →
            sum φ (all_parts p j m (ghosts B M T b ts)) + Z φ b ≡ Z φ (b + sizes ts)
        parts_in φ nil p m b j ss k h = zero-add (Z φ b) ∙ ap (Z φ) (sym (add-zero b))
        parts_in φ (cons x xs) p m b j ss k h =
            let n : (b + size x) + sizes xs ≡ b + (size x + sizes xs) = omega arith in
            kid_parts φ p m b j ss x (ghosts B M T (b + size x) xs) (Z φ (b + (size x + sizes xs))) (T.stamp b) (eqb (T.active (offset p t)) (suc m)) refl (k.0, k.1, k.2)
            (first p m b (count xs) j ss h k.1)
            (subst (λ (c : ℕ). sum φ (parts (p ++ (m ∷ [])) (ghost B M T c x)) + Z φ (suc c) ≡ Z φ (c + size x)) k.1 (parts_tree φ x (p ++ (m ∷ [])) k.0 k.2))
            (parts_in φ xs p (suc m) (b + size x) j ss k.3 (further p m (count xs) j ss h) ∙ ap (Z φ) n)

        bare_in : (φ : Block → ℕ) (ts : Forest ℕ) (p : Position) (m b : ℕ) → Link t p m b ts → Bares p m (count ts) → Z φ b ≡ Z φ (b + sizes ts)
        bare_in φ nil p m b k h = ap (Z φ) (sym (add-zero b))
        bare_in φ (cons x xs) p m b k h =
            let n : (b + size x) + sizes xs ≡ b + (size x + sizes xs) = omega arith in
            let a = h m (omega arith) (omega arith) in
            let z = own_step φ b (ap T.stamp (sym k.1) ∙ a.0) in
            let y = parts_rest φ b x (p ++ (m ∷ [])) (ap T.kind (sym k.1) ∙ a.1)
            (subst (λ (c : ℕ). sum φ (parts (p ++ (m ∷ [])) (ghost B M T c x)) + Z φ (suc c) ≡ Z φ (c + size x)) k.1 (parts_tree φ x (p ++ (m ∷ [])) k.0 k.2)) in
            sym z ∙ y ∙ bare_in φ xs p (suc m) (b + size x) k.3 (λ i c d. h i (omega (arith, c)) (omega (arith, d))) ∙ ap (Z φ) n

    -- THE LISTS

    kid_list : (p : Position) (m b j u : ℕ) (ss : List Step) (x : Term) (ks : Ghosts) (n : ℕ) (z : Bool) → z ≡ false → Argument B T t n z (offset p t) b j m ss →
        lists p m (gcons (holder n u) (ghost B M T b x) ks) ≡ lists p (suc m) ks
    unfolding holder list
    kid_list p m b j u ss x ks (suc n) z e h = refl
    kid_list p m b j u ss x ks zero true e h = absurd (true≢false e)
    kid_list p m b j u ss x ks zero false e h = ap (λ (d : Ghost). list (p ++ (m ∷ [])) d ++ lists p (suc m) ks) (ghost_rest B M T b x h)

    own_list : (p : Position) (m n u : ℕ) (d : Ghost) (ks : Ghosts) → n ≡ 0 → lists p (suc m) ks ≡ [] → lists p m (gcons (holder n u) d ks) ≡ list (p ++ (m ∷ [])) d
    unfolding holder list
    own_list p m zero u d ks e q = ap (λ (z : List Order). list (p ++ (m ∷ [])) d ++ z) q ∙ append-nil (list (p ++ (m ∷ [])) d)
    own_list p m (suc n) u d ks e q = absurd (omega (arith, e))

    abbrev pub list_at : Position → List Order
    list_at p = list p (ghost B M T (offset p t) (subterm p t))

    same_list : (q : Position) (b : ℕ) (x : Term) → offset q t ≡ b → subterm q t ≡ x → list q (ghost B M T b x) ≡ list_at q
    same_list q b x e₁ e₂ = sym (ap₂ (λ (c : ℕ) (y : Term). list q (ghost B M T c y)) e₁ e₂)

    none_active : (ts : Forest ℕ) (p : Position) (m b j : ℕ) (ss : List Step) → Link t p m b ts → Corrects (arity B) ts → Arguments p m (count ts) j ss → T.active (offset p t) ≤ m →
        lists p m (ghosts B M T b ts) ≡ []
    none_active ts p m b j ss k c h y = quiet_list (wells_quiet ts p m b j ss ss k c (record { stamp = T.part (offset p t); owner = 0 }) refl (λ x u. u) h y) p m

    one_active : (ts : Forest ℕ) (p : Position) (m b j : ℕ) (ss : List Step) → Link t p m b ts → Corrects (arity B) ts → Arguments p m (count ts) j ss → (x : ℕ) →
        T.active (offset p t) ≡ suc x → m ≤ x → x < m + count ts → T.stamp (offset (p ++ (x ∷ [])) t) ≡ 0 → lists p m (ghosts B M T b ts) ≡ list_at (p ++ (x ∷ []))
    unfolding ghosts count
    one_active nil p m b j ss k c h x e l r z = absurd (omega (arith, l, r))
    one_active (cons y ys) p m b j ss k c h x e l r z =
        elim (eqb_cases x m) [
          | inl q ↦
              (let f : offset (p ++ (x ∷ [])) t ≡ b = ap (λ (i : ℕ). offset (p ++ (i ∷ [])) t) q.1 ∙ k.1 in
              let a = q.1 in
              own_list p m (T.stamp b) (T.owner b) (ghost B M T b y) (ghosts B M T (b + size y) ys) (ap T.stamp (sym f) ∙ z)
              (none_active ys p (suc m) (b + size y) j ss k.3 c.1 (further p m (count ys) j ss h) (omega (arith, e, a)))
              ∙ same_list (p ++ (m ∷ [])) b y k.1 k.2
              ∙ ap (λ (i : ℕ). list_at (p ++ (i ∷ []))) (sym q.1))
          | inr q ↦
              (let a = q.1 in
              kid_list p m b j (T.owner b) ss y (ghosts B M T (b + size y) ys) (T.stamp b) (eqb (T.active (offset p t)) (suc m))
              (eqb_false (T.active (offset p t)) (suc m) (λ w. a (omega (arith, e, w)))) (first p m b (count ys) j ss h k.1)
              ∙ one_active ys p (suc m) (b + size y) j ss k.3 c.1 (further p m (count ys) j ss h) x e (omega (arith, l, a)) (omega (arith, r)) z)
        ]

    -- what stands above a frame in its part
    abbrev pub Carry : Option Position → List Order → Type 0
    Carry none A = A ≡ []
    Carry (some p) A = A ≡ list_at p

    job_list : (up : Option Position) (p : Position) (k c j o : ℕ) (A : List Order) → Links B T t up p → T.kind (offset p t) ≡ Kind.underway k c j → Carry up A → Rooted o p t →
        list_at p ≡ A ++ orders j p (recount c (drop k (steps B o)))
    unfolding arguments label list ghost
    job_list up p k c j o A lk e ca ro = go (subterm p t) refl
      where
        kids : (up : Option Position) → Links B T t up p → Carry up A → (o' : ℕ) (ts : Forest ℕ) → subterm p t ≡ node o' ts → lists p 0 (ghosts B M T (suc (offset p t)) ts) ≡ A
        kids none lk ca o' ts q =
            let r : SymbolOf B T t (Kind.underway k c j) p (node o' ts) = subst (SymbolOf B T t (Kind.underway k c j) p) q (subst (λ (z : Kind). SymbolOf B T t z p (subterm p t)) e (rule p ro.0)) in
            let cr : Correct (arity B) (node o' ts) = subst (Correct (arity B)) q (correct_subterm (arity B) p t ro.0 correct) in
            none_active ts p 0 (suc (offset p t)) j (drop k (steps B o')) (link_node t p o' ts ro.0 q) cr.1 (λ i m n. r.2 i (omega (arith, n))) (omega (arith, lk)) ∙ sym ca
        kids (some y) lk ca o' ts q =
            let r : SymbolOf B T t (Kind.underway k c j) p (node o' ts) = subst (SymbolOf B T t (Kind.underway k c j) p) q (subst (λ (z : Kind). SymbolOf B T t z p (subterm p t)) e (rule p ro.0)) in
            let cr : Correct (arity B) (node o' ts) = subst (Correct (arity B)) q (correct_subterm (arity B) p t ro.0 correct) in
            let (x, yx, ac, pl, lx) = lk in
            let n : x < count ts = subst (λ (z : Term). x < count (arguments z)) q lx in
            one_active ts p 0 (suc (offset p t)) j (drop k (steps B o')) (link_node t p o' ts ro.0 q) cr.1 (λ i m n. r.2 i (omega (arith, n))) x ac (omega arith)
            (omega (arith, n)) (ap (λ (z : Position). T.stamp (offset z t)) (sym yx) ∙ pl)
            ∙ ap (λ (z : Position). list_at z) (sym yx) ∙ sym ca

        go : (x : Term) → subterm p t ≡ x → list_at p ≡ A ++ orders j p (recount c (drop k (steps B o)))
        go (node o' ts) q =
            let n : o' ≡ o = sym (ap label q) ∙ ro.1 in
            ap (λ (x : Term). list p (ghost B M T (offset p t) x)) q
            ∙ ap (λ (z : Kind). list p (as_kind B z (M (offset p t)) o' (dresses M (suc (offset p t)) ts) (ghosts B M T (suc (offset p t)) ts))) e
            ∙ ap₂ (λ (z : List Order) (y : ℕ). z ++ orders j p (recount c (drop k (steps B y)))) (kids up lk ca o' ts q) n

    -- THE UNITS

    unfoldable pub chain : List Pending → List Order → List Order
    unfolding block_of
    chain [] r = r
    chain (x ∷ xs) r = (block_of x).list ++ chain xs r

    -- what stands under a unit's pending parts
    unfoldable pub under : ℕ → List Order
    under zero = list_at [] ++ (Order.bingo ∷ [])
    under (suc v) = Order.sleep ∷ []

    asleep_under : (v : ℕ) → 1 ≤ v → Order.sleep ∷ [] ≡ chain [] (under v)
    unfolding chain under
    asleep_under zero l = absurd (omega (arith, l))
    asleep_under (suc v) l = refl

    begins_list : (up : Option Position) (q : Position) (A : List Order) → Begins B T t up q → Carry up A → A ≡ list_at q
    unfolding list
    begins_list none q A h ca = ca ∙ sym (ap (λ (d : Ghost). list q d) (ghost_rest B M T (offset q t) (subterm q t) h))
    begins_list (some p) q A h ca = ca ∙ ap (λ (z : Position). list_at z) h

    pub unit_list : (v : ℕ) (up : Option Position) (gs : List Placed) (A : List Order) → Stands B T t v up gs → GoodFrames B t gs → Carry up A →
        A ++ list_of B gs ≡ chain (exits_of gs) (under v)
    unfolding list_of exits_of
    unit_list v up [] A h g ca = absurd h
    unit_list v up (Placed.job p o zero c j ∷ gs) A h g ca =
        let r = g.0.0 in
        ap (λ (z : List Order). z ++ (Order.visit p ∷ list_of B gs)) (nothing up h.0 ca)
        ∙ unit_list v (some p) gs (Order.visit p ∷ []) h.2 g.1 (sym (fresh_list p h.1))
      where
        nothing : (up : Option Position) → up ≡ none → Carry up A → A ≡ []
        nothing none e ca = ca
        nothing (some q) e ca = absurd (none-ne-some _ (sym e))

        fresh_list : (p : Position) → T.kind (offset p t) ≡ Kind.fresh → list_at p ≡ Order.visit p ∷ []
        fresh_list p e = go (subterm p t)
          where
            go : (x : Term) → list p (ghost B M T (offset p t) x) ≡ Order.visit p ∷ []
            go (node o ts) = unfold ghost list in ap (λ (k : Kind). list p (as_kind B k (M (offset p t)) o (dresses M (suc (offset p t)) ts) (ghosts B M T (suc (offset p t)) ts))) e
    unit_list v up (Placed.job p o (suc k) c j ∷ gs) A h g ca =
        let e = job_list up p k c j o A h.0 h.1 ca g.0.0 in
        sym (append_assoc A (orders j p (recount c (drop k (steps B o)))) (list_of B gs))
        ∙ ap (λ (z : List Order). z ++ list_of B gs) (sym e)
        ∙ unit_list v (some p) gs (list_at p) h.2 g.1 refl
    unit_list v up (Placed.exit w i q j ∷ gs) A h g ca =
        ap (λ (z : List Order). z ++ (Order.exit q j ∷ list_of B gs)) (begins_list up q A h.0 ca)
        ∙ sym (append_assoc (list_at q) (Order.exit q j ∷ []) (list_of B gs))
        ∙ ap (λ (z : List Order). (list_at q ++ (Order.exit q j ∷ [])) ++ z) (unit_list v none gs [] h.1 g.1 refl)
        ∙ unfold chain block_of in refl
    unit_list v up (Placed.sleep ∷ gs) A h g ca = sleeping v h.2 h.0 up h.1 ca
      where
        sleeping : (v : ℕ) → 1 ≤ v → gs ≡ [] → (up : Option Position) → up ≡ none → Carry up A → A ++ (Order.sleep ∷ list_of B gs) ≡ chain (exits_of gs) (under v)
        sleeping v l e none d ca = subst (λ (z : List Placed). A ++ (Order.sleep ∷ list_of B z) ≡ chain (exits_of z) (under v)) (sym e)
            (ap (λ (z : List Order). z ++ (Order.sleep ∷ [])) ca ∙ asleep_under v l)
        sleeping v l e (some q) d ca = absurd (none-ne-some _ (sym d))
    unit_list v up (Placed.bingo ∷ gs) A h g ca =
        subst (λ (z : List Placed). A ++ (Order.bingo ∷ list_of B z) ≡ chain (exits_of z) (under v)) (sym h.0)
        (subst (λ (z : ℕ). A ++ (Order.bingo ∷ []) ≡ chain [] (under z)) (sym h.1)
        (ap (λ (z : List Order). z ++ (Order.bingo ∷ [])) (begins_list up [] A h.2 ca) ∙ unfold chain under in refl))

    unfoldable pub blocks : List Pending → List Block
    unfolding block_of
    blocks [] = block root_label (list_at [] ++ (Order.bingo ∷ [])) ∷ []
    blocks (x ∷ xs) = block_of x ∷ blocks xs

    unit_here : (v : ℕ) (x : Pending) (xs : List Pending) → v ≡ T.owner (offset x.position t) → of_unit B T t v (x ∷ xs) ≡ x ∷ of_unit B T t v xs
    unfolding of_unit
    unit_here v x xs e = rw (eqb_true v (T.owner (offset x.position t)) e, of_unit)

    unit_past : (v : ℕ) (x : Pending) (xs : List Pending) → v ≢ T.owner (offset x.position t) → of_unit B T t v (x ∷ xs) ≡ of_unit B T t v xs
    unfolding of_unit
    unit_past v x xs e = rw (eqb_false v (T.owner (offset x.position t)) e, of_unit)

    pub blocks_list : (v : ℕ) (xs : List Pending) → Stack.list_of v (blocks xs) ≡ chain (of_unit B T t v xs) (under v)
    unfolding blocks bottom chain under of_unit
    blocks_list zero [] =
        let e : Stack.list_of 0 [] ≡ [] = list_none 0 [] tt in
        list_same 0 (block root_label (list_at [] ++ (Order.bingo ∷ []))) [] refl
        ∙ ap (λ (z : List Order). (list_at [] ++ (Order.bingo ∷ [])) ++ z) e
        ∙ append-nil (list_at [] ++ (Order.bingo ∷ []))
    blocks_list (suc v) [] =
        list_other (suc v) (block root_label (list_at [] ++ (Order.bingo ∷ []))) [] (λ e. omega (arith, e)) ∙ list_none (suc v) [] tt
    blocks_list v (x ∷ xs) =
        elim (eqb_cases v (T.owner (offset x.position t))) [
          | inl p ↦
              list_same v (block_of x) (blocks xs) (unfold block_of in p.1)
              ∙ ap (λ (z : List Order). (block_of x).list ++ z) (blocks_list v xs)
              ∙ ap (λ (z : List Pending). chain z (under v)) (sym (unit_here v x xs p.1))
          | inr p ↦
              list_other v (block_of x) (blocks xs) (unfold block_of in p.1) ∙ blocks_list v xs ∙ ap (λ (z : List Pending). chain z (under v)) (sym (unit_past v x xs p.1))
        ]

    -- the blocks are those of the ghost term, the later placed first
    module _ (units : ℕ) (es : List Pending) (ordered : Ordered B T t units es) (found : (b : ℕ) → listed B T t b es ≡ one (T.stamp b)) (main : T.stamp 0 ≡ 0) where
      abbrev root : Block
      root = block root_label (list_at [] ++ (Order.bingo ∷ []))

      blocks_sum : (φ : Block → ℕ) (xs : List Pending) → Ordered B T t units xs → sum φ (blocks xs) ≡ φ root + below φ (size t) xs
      unfolding blocks sum below
      blocks_sum φ [] o = refl
      blocks_sum φ (x ∷ xs) o = omega (arith, below_in φ (size t) x xs (offset_inside x.position t o.0), blocks_sum φ xs o.5)

      below_zero : (φ : Block → ℕ) (xs : List Pending) → below φ 0 xs ≡ 0
      below_zero φ [] = unfold below in refl
      below_zero φ (x ∷ xs) = below_out φ 0 x xs (omega arith) ∙ below_zero φ xs

      pub blocks_same : Same (blocks es) (all (ghost B M T 0 t))
      unfolding sum subterm offset
      blocks_same φ =
          let a = parts_tree units es ordered found φ t [] tt refl in
          let b = own_step units es ordered found φ 0 main in
          let e : offset [] t + size t ≡ size t = omega arith in
          omega (arith, blocks_sum φ es ordered, a, b, below_zero φ es, ap (λ (n : ℕ). below φ n es) e)

      blocks_under : (n : ℕ) (xs : List Pending) → 1 ≤ n → Before B T t n xs → Labels (Under n) (blocks xs)
      unfolding blocks block_of
      blocks_under n [] l o = (l, tt)
      blocks_under n (x ∷ xs) l o = (o.0, blocks_under n xs l o.1)

      pub blocks_sorted : (xs : List Pending) → Ordered B T t units xs → Sorted (blocks xs)
      unfolding blocks block_of
      blocks_sorted [] o = (tt, tt)
      blocks_sorted (x ∷ xs) o = (blocks_under (T.stamp (offset x.position t)) xs o.1 o.4, blocks_sorted xs o.5)

      pub blocks_owned : (xs : List Pending) → 1 ≤ units → Ordered B T t units xs → Labels (Owned units) (blocks xs)
      unfolding blocks block_of
      blocks_owned [] l o = (l, tt)
      blocks_owned (x ∷ xs) l o = (o.3, blocks_owned xs l o.5)

    -- the blocks' units are those of the parts, and last that of the main part
    pub blocks_owners : (xs : List Pending) → owners (blocks xs) ≡ map (λ x. T.owner (offset x.position t)) xs ++ (0 ∷ [])
    unfolding blocks block_of
    blocks_owners [] = refl
    blocks_owners (x ∷ xs) = ap (λ (z : List ℕ). T.owner (offset x.position t) ∷ z) (blocks_owners xs)
