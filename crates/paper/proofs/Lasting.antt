-- A marked part is never changed: an entry leaves it as it is, or applies a rule to a part around it. Assumes nothing.
use mathlib.Core.Bool.{Bool, true, false, true≢false}
use mathlib.Core.List.{List, [], ◌∷◌, ◌++◌, append-nil}
use mathlib.Core.Logic.{◌⊎◌, inl, inr, ◌≢◌}
use mathlib.Core.Option.{Option, none, some}
use mathlib.Core.Path.{◌≡◌, refl, sym, ◌∙◌, ap, ap₂, subst}
use Prim.Native.Nat.{ℕ, zero, suc}
use native.Mathlib.Nat.{add-zero}
use lib.Dec.{eqb}
use lib.ListN.{length}
use Rattle.paper.specs.Tree.{node, label, arguments, pick, Position, subterm, change, replace}
use Rattle.paper.specs.Strategy.{Step}
use Rattle.paper.specs.Book.{Book, steps}
use Rattle.paper.specs.Match.{rewrite_over}
use Rattle.paper.specs.Marks.{cell, Marked, cells, unless_marked, to_do, mark_root, mark_part, mark_at}
use Rattle.paper.specs.Machine.{Order, orders, joins_in, UnitState, unit_state, asleep, unit, State, with_unit, Event, Outcome, going, ended, Grant, Limits, do_visit, do_fork, do_join, do_exit, do_rewrite, do_whole, carry_out_by, turn_by, entry_by}
use Rattle.paper.specs.Walk.{entered}
use Rattle.paper.specs.Run.{Moment, on, moments_from_by}
use Rattle.paper.specs.Sound.{All}
use Rattle.paper.specs.Demand3.{Throughout}
use Rattle.paper.specs.Change10.{MarkedAt, Clear, OrderOutside, Outside, Inside, Applied, Lasting, Between}
use Rattle.paper.proofs.Books.{all_get_d}
use Rattle.paper.proofs.Queue.{by_limits}
use Rattle.paper.proofs.Tests.{eqb_cases}
use Rattle.paper.proofs.Trees.{pick_any, pick_changed, pick_other, subterm_append, replace_same}

-- TERMS

-- a change at q leaves what stands at p, where q isn't in the marked part at p; at q itself, or below it, the rest decides
module _ (x : Marked) where
  elsewhere : (q p : Position) (t : Marked) → Clear q t → Inside p t → MarkedAt p t →
      (subterm p (replace q x t) ≡ subterm p t) ⊎ ((r : Position) × (p ≡ q ++ r))
  unfolding subterm replace label arguments
  elsewhere [] p t c i m = inr (p, refl)
  elsewhere (j ∷ q) [] t c i m = absurd (true≢false (sym m ∙ c.0))
  elsewhere (j ∷ q) (k ∷ p) (node o ts) c (b, i) m = go (eqb_cases k j) (elsewhere q p (pick (node o ts) k ts))
    where
      u : Marked
      u = node o (change j (replace q x) ts)

      go : ((eqb k j ≡ true) × (k ≡ j)) ⊎ ((eqb k j ≡ false) × (k ≢ j)) →
          (Clear q (pick (node o ts) k ts) → Inside p (pick (node o ts) k ts) → MarkedAt p (pick (node o ts) k ts) →
          (subterm p (replace q x (pick (node o ts) k ts)) ≡ subterm p (pick (node o ts) k ts)) ⊎ ((r : Position) × (p ≡ q ++ r))) →
          (subterm p (pick u k (change j (replace q x) ts)) ≡ subterm p (pick (node o ts) k ts)) ⊎ ((r : Position) × (k ∷ p ≡ j ∷ (q ++ r)))
      go (inl e) h =
          let w : pick u k (change j (replace q x) ts) ≡ replace q x (pick (node o ts) k ts) =
          subst (λ (z : ℕ). pick u k (change z (replace q x) ts) ≡ replace q x (pick (node o ts) k ts)) e.1 (pick_changed u (node o ts) k (replace q x) ts b) in
          elim (h (subst (λ (z : ℕ). Clear q (pick (node o ts) z ts)) (sym e.1) c.1) i m) [
            | inl z ↦ inl (ap (subterm p) w ∙ z)
            | inr z ↦ inr (z.0, ap₂ (λ (a : ℕ) (l : List ℕ). a ∷ l) e.1 z.1)
          ]
      go (inr e) h = inl (ap (subterm p) (pick_other u (node o ts) j k (replace q x) ts e.1 b))

-- below q stands what was put there
below : (q r : Position) (x t : Marked) → Inside (q ++ r) t → subterm (q ++ r) (replace q x t) ≡ subterm r x
unfolding subterm replace label arguments
below [] r x t i = refl
below (j ∷ q) r x (node o ts) (b, i) =
    ap (subterm (q ++ r)) (pick_changed (node o (change j (replace q x) ts)) (node o ts) j (replace q x) ts b) ∙ below q r x (pick (node o ts) j ts) i

inside_below : (q r : Position) (t : Marked) → Inside (q ++ r) t → Inside r (subterm q t)
unfolding subterm
inside_below [] r t i = i
inside_below (j ∷ q) r t (b, i) = inside_below q r (pick t j (arguments t)) i

-- marking changes the root alone
mark_below : (n : ℕ) (r : Position) (y : Marked) → Inside r y → (r ≡ [] → mark_part n y ≡ y) → subterm r (mark_part n y) ≡ subterm r y
unfolding subterm mark_part arguments
mark_below n [] y i h = h refl
mark_below n (k ∷ r) (node c ts) (b, i) h = ap (subterm r) (pick_any (node (mark_root n c) ts) (node c ts) k ts b)

append_none : (q r : Position) → r ≡ [] → q ++ r ≡ q
append_none q r e = ap (λ (z : Position). q ++ z) e ∙ append-nil q

-- a part at q of which n orders are left: the marked part at p stays, if it does where it is that part
mark_lasts : (n : ℕ) (q p : Position) (t : Marked) → Clear q t → Inside p t → MarkedAt p t → (q ≡ p → mark_part n (subterm q t) ≡ subterm q t) →
    subterm p (mark_at n q t) ≡ subterm p t
unfolding mark_at
mark_lasts n q p t c i m h = go (elsewhere (mark_part n (subterm q t)) q p t c i m)
  where
    go : (subterm p (replace q (mark_part n (subterm q t)) t) ≡ subterm p t) ⊎ ((r : Position) × (p ≡ q ++ r)) →
        subterm p (replace q (mark_part n (subterm q t)) t) ≡ subterm p t
    go (inl e) = e
    go (inr (r, e)) =
        let i' : Inside (q ++ r) t = subst (λ (z : Position). Inside z t) e i in
        ap (λ (z : Position). subterm z (replace q (mark_part n (subterm q t)) t)) e
        ∙ below q r (mark_part n (subterm q t)) t i'
        ∙ mark_below n r (subterm q t) (inside_below q r t i') (λ z. h (sym (append_none q r z) ∙ sym e))
        ∙ sym (subterm_append q r t)
        ∙ ap (λ (z : Position). subterm z t) (sym e)

-- a marked part has nothing to do, and is not marked anew
marked_done : (B : Book) (t : Marked) → (label t).marked ≡ true → to_do B t ≡ []
unfolding to_do unless_marked
marked_done B t e = ap (λ (b : Bool). unless_marked b (steps B (label t).operator)) e

marked_same : (t : Marked) → (label t).marked ≡ true → mark_part 0 t ≡ t
unfolding label mark_part mark_root
marked_same (node c ts) e = ap (λ (b : Bool). node (cell b c.operator) ts) (sym e)

entered_same : (B : Book) (t : Marked) → (label t).marked ≡ true → entered B t ≡ t
entered_same B t e = ap (λ (ss : List Step). mark_part (length ss) t) (marked_done B t e) ∙ marked_same t e

-- so VISIT of it is dropped
pub visit_dropped : (B : Book) (L : Limits) (u : ℕ) (s : State) (os : List Order) (p : Position) → MarkedAt p s.term →
    do_visit B L u s os p ≡ going Event.visited (with_unit s u (unit_state true os))
unfolding do_visit mark_at orders joins_in
visit_dropped B L u s os p m =
    let x = subterm p s.term in
    let e : replace p (mark_part 0 x) s.term ≡ s.term = ap (λ (z : Marked). replace p z s.term) (marked_same x m) ∙ replace_same p s.term in
    rw (marked_done B x m, e, add-zero s.joins)

-- ENTRIES

-- what an outcome leaves of marked parts
abbrev Leaves : Book → State → Outcome → Type 0
Leaves B s (going ev s') = Lasting B s s'
Leaves B s (ended e s') = Unit {0}

module _ (B : Book) (L : Limits) (u : ℕ) (s : State) (os : List Order) where
  visit_leaves : (q : Position) → Clear q s.term → Leaves B s (do_visit B L u s os q)
  unfolding do_visit
  visit_leaves q c p i m =
      inl (mark_lasts (length (to_do B (subterm q s.term))) q p s.term c i m
      (λ e. entered_same B (subterm q s.term) (subst (λ (z : Position). (label (subterm z s.term)).marked ≡ true) (sym e) m)))

  fork_leaves : (q : Position) (j : ℕ) (x : Option ℕ) → Leaves B s (do_fork B L u s os q j x)
  unfolding do_fork
  fork_leaves q j none = λ p i m. inl refl
  fork_leaves q j (some v) = λ p i m. inl refl

  join_leaves : (j c : ℕ) → Leaves B s (do_join B L u s os j c)
  unfolding do_join
  join_leaves j zero = λ p i m. inl refl
  join_leaves j (suc c) = λ p i m. inl refl

  rewrite_leaves : (q : Position) (k : ℕ) (r : Marked) → Clear q s.term → (label (subterm q s.term)).marked ≡ false →
      rewrite_over cells B.rules (subterm q s.term) ≡ some r → Leaves B s (do_rewrite B L u s os q k r false false)
  unfolding do_rewrite
  rewrite_leaves q k r c f e = λ p i m. go p m (elsewhere r q p s.term c i m)
    where
      go : (p : Position) → MarkedAt p s.term → (subterm p (replace q r s.term) ≡ subterm p s.term) ⊎ ((l : Position) × (p ≡ q ++ l)) →
          (subterm p (replace q r s.term) ≡ subterm p s.term) ⊎ Applied B p s.term (replace q r s.term)
      go p m (inl z) = inl z
      go p m (inr ([], z)) = absurd (true≢false (sym m ∙ ap (λ (x : Position). (label (subterm x s.term)).marked) (z ∙ append-nil q) ∙ f))
      go p m (inr ((k ∷ l), z)) = inr (q, k, l, r, z, e, refl)

  whole_leaves : (q : Position) (k : ℕ) → Clear q s.term → (label (subterm q s.term)).marked ≡ false → (x : Option Marked) →
      rewrite_over cells B.rules (subterm q s.term) ≡ x → Leaves B s (do_whole B L u s os q k x)
  unfolding do_whole
  whole_leaves q k c f none e =
      λ p i m. inl (mark_lasts k q p s.term c i m (λ z. absurd (true≢false (sym m ∙ ap (λ (x : Position). (label (subterm x s.term)).marked) (sym z) ∙ f))))
  whole_leaves q k c f (some r) e = by_limits B L u s os q k r (Leaves B s) (λ e. tt) (rewrite_leaves q k r c f e)

module _ (G : Grant) (B : Book) (L : Limits) (u : ℕ) (s : State) (os : List Order) where
  order_leaves : (o : Order) → OrderOutside s.term o → Leaves B s (carry_out_by G B L u s os o)
  unfolding carry_out_by do_exit
  order_leaves (Order.visit q) c = visit_leaves B L u s os q c
  order_leaves (Order.fork q j) c = fork_leaves B L u s os q j (G s)
  order_leaves (Order.join j c) h = join_leaves B L u s os j c
  order_leaves (Order.exit q j) h = λ p i m. inl refl
  order_leaves (Order.whole q k) c = whole_leaves B L u s os q k c.0 c.1 (rewrite_over cells B.rules (subterm q s.term)) refl
  order_leaves Order.sleep h = λ p i m. inl refl
  order_leaves Order.bingo h = tt

-- a unit that there isn't has SLEEP alone
entry_leaves : (G : Grant) (B : Book) (L : Limits) (u : ℕ) (s : State) → Outside s → Leaves B s (entry_by G B L u s)
unfolding entry_by turn_by
entry_leaves G B L u s h =
    go (unit s.units u).busy (unit s.units u).list
    (all_get_d (λ (x : UnitState). All (OrderOutside s.term) x.list) s.units u asleep (tt, tt) h)
  where
    go : (b : Bool) (os : List Order) → All (OrderOutside s.term) os → Leaves B s (turn_by G B L u s b os)
    go false os a = λ p i m. inl refl
    go true [] a = λ p i m. inl refl
    go true (o ∷ os) a = order_leaves G B L u s os o a.0

-- THE RUN

module _ (G : Grant) (B : Book) (L : Limits) where
  -- where no order of any state works in a marked part
  pub marks_last : (us : List ℕ) (s : State) → Throughout Outside s (moments_from_by G B L us s) → Between (Lasting B) s (moments_from_by G B L us s)
  unfolding moments_from_by
  marks_last [] s h = tt
  marks_last (u ∷ us) s h = go (entry_by G B L u s) (entry_leaves G B L u s h.0) h.1 (marks_last us)
    where
      go : (x : Outcome) → Leaves B s x → All (λ (m : Moment). Outside m.state) (on (moments_from_by G B L us) x) →
          ((s' : State) → Throughout Outside s' (moments_from_by G B L us s') → Between (Lasting B) s' (moments_from_by G B L us s')) →
          Between (Lasting B) s (on (moments_from_by G B L us) x)
      go (going ev s') l h k = unfold on in (l, k s' h)
      go (ended e s') l h k = unfold on in tt
