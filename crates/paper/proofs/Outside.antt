-- Where the marks are true, no order stands in a marked part. Assumes nothing.
use mathlib.Core.Bool.{false}
use mathlib.Core.List.{List, [], ◌∷◌, ◌++◌}
use mathlib.Core.Path.{◌≡◌, ◌∙◌, ap, subst}
use Prim.Native.Nat.{ℕ, suc, ◌+◌, ◌<◌}
use native.Mathlib.Nat.{add-zero}
use native.Mathlib.Omega.{arith}
use Rattle.paper.specs.Tree.{node, label, arguments, count, pick, Position, subterm}
use Rattle.paper.specs.Strategy.{Step}
use Rattle.paper.specs.Book.{Book}
use Rattle.paper.specs.Marks.{Cell, Marked}
use Rattle.paper.specs.Machine.{Order, orders, State, Limits}
use Rattle.paper.specs.Sound.{All}
use Rattle.paper.specs.Change10.{TrueMarks, Clear, OrderOutside, Outside}
use Rattle.paper.proofs.Again.{normal_run}
use Rattle.paper.proofs.Ghost.{own, lent, Ghost, rest, todo, work, Ghosts, gnil, gcons, erase, erases}
use Rattle.paper.proofs.Honest.{Honest, part_honest, marked_normal}
use Rattle.paper.proofs.HonestGhost.{HonestGhost, HonestGhosts, ghost_honest}
use Rattle.paper.proofs.Invariant.{all, Inv}
use Rattle.paper.proofs.Lists.{all_in, all_of, all_append}
use Rattle.paper.proofs.Progress.{all_orders}
use Rattle.paper.proofs.Stack.{same_in}
use Rattle.paper.proofs.Steps.{run_figure}
use Rattle.paper.proofs.Trees.{subterm_append}
use Rattle.paper.proofs.View.{Block, list, lists, parts, all_parts, stills_list, stills_parts}

-- TRUE MARKS

pub marks_true : (B : Book) (L : Limits) (s : State) (D : Ghost) (bs : List Block) → Inv B L s D bs → HonestGhost B D → TrueMarks B s
marks_true B L s D bs inv hn p e =
    let h : Honest B s.term = rw inv.is_term (ghost_honest B D hn) in
    run_figure (normal_run (marked_normal B (subterm p s.term) (part_honest B p s.term h) e))

-- NO ORDER IN A MARKED PART

-- one argument further down
clear_below : (p : Position) (i : ℕ) (t : Marked) → Clear p t → (label (subterm p t)).marked ≡ false → Clear (p ++ (i ∷ [])) t
unfolding subterm
clear_below [] i t c e = (e, tt)
clear_below (j ∷ p) i t c e = (c.0, clear_below p i (pick t j (arguments t)) c.1 e)

orders_outside : (t : Marked) (j : ℕ) (p : Position) (ss : List Step) → Clear p t → (label (subterm p t)).marked ≡ false → All (OrderOutside t) (orders j p ss)
unfolding orders
orders_outside t j p [] c e = tt
orders_outside t j p (Step.visit i ∷ ss) c e = (clear_below p i t c e, orders_outside t j p ss c e)
orders_outside t j p (Step.fork i ∷ ss) c e = (clear_below p i t c e, orders_outside t j p ss c e)
orders_outside t j p (Step.join n ∷ ss) c e = (tt, orders_outside t (suc j) p ss c e)
orders_outside t j p (Step.whole ∷ ss) c e = ((c, e), orders_outside t j p ss c e)

abbrev BlockOutside : Marked → Block → Type 0
BlockOutside t b = All (OrderOutside t) b.list

-- the terms of some ghosts are the arguments numbered from i on at a position
abbrev Stand : Marked → Position → ℕ → Ghosts → Type 0
Stand t p i gnil = Unit {0}
Stand t p i (gcons m d ks) = (subterm (p ++ (i ∷ [])) t ≡ erase d) × Stand t p (suc i) ks

stand : (t x : Marked) (p : Position) (i : ℕ) (ks : Ghosts) → ((r : ℕ) → r < count (erases ks) → subterm (p ++ ((i + r) ∷ [])) t ≡ pick x r (erases ks)) →
    Stand t p i ks
unfolding erases count pick
stand t x p i gnil h = tt
stand t x p i (gcons m d ks) h = (
  subst (λ (k : ℕ). subterm (p ++ (k ∷ [])) t ≡ erase d) (add-zero i) (h 0 (omega arith)),
  stand t x p (suc i) ks
      (λ r l.
      let e : i + suc r ≡ suc i + r = omega arith in
      subst (λ (k : ℕ). subterm (p ++ (k ∷ [])) t ≡ pick x r (erases ks)) e (h (suc r) (omega arith))),
)

arguments_stand : (t : Marked) (p : Position) (o : Cell) (ks : Ghosts) → subterm p t ≡ node o (erases ks) → Stand t p 0 ks
unfolding subterm arguments
arguments_stand t p o ks e =
    stand t (node o (erases ks)) p 0 ks (λ r l. let z : 0 + r ≡ r = omega arith in rw z (subterm_append p (r ∷ []) t ∙ ap (subterm (r ∷ [])) e))

root_unmarked : (t : Marked) (p : Position) (o : Cell) (ks : Ghosts) → subterm p t ≡ node o (erases ks) → o.marked ≡ false → (label (subterm p t)).marked ≡ false
unfolding label
root_unmarked t p o ks e m = rw e m

module _ (B : Book) (t : Marked) where
  -- the orders of a part's own list
  mutual
    unfolding list orders erase

    list_outside : (D : Ghost) (p : Position) → HonestGhost B D → Clear p t → subterm p t ≡ erase D → All (OrderOutside t) (list p D)
    list_outside (rest x) p h c e = tt
    list_outside (todo x) p h c e = (c, tt)
    list_outside (work o j ks []) p h c e = rw (stills_list h.1.0 p 0) tt
    list_outside (work o j ks (s ∷ ss)) p h c e =
        let m = root_unmarked t p o ks e h.1.0 in
        all_append (OrderOutside t) (lists p 0 ks) (orders j p (s ∷ ss)) (lists_outside ks p 0 h.0 c m (arguments_stand t p o ks e)) (orders_outside t j p (s ∷ ss) c m)

    lists_outside : (ks : Ghosts) (p : Position) (i : ℕ) → HonestGhosts B ks → Clear p t → (label (subterm p t)).marked ≡ false → Stand t p i ks → All (OrderOutside t) (lists p i ks)
    lists_outside gnil p i h c m e = tt
    lists_outside (gcons own d ks) p i h c m e =
        all_append (OrderOutside t) (list (p ++ (i ∷ [])) d) (lists p (suc i) ks) (list_outside d (p ++ (i ∷ [])) h.0 (clear_below p i t c m) e.0)
        (lists_outside ks p (suc i) h.1 c m e.1)
    lists_outside (gcons (lent l) d ks) p i h c m e = lists_outside ks p (suc i) h.1 c m e.1

  -- and of the parts lent from it
  mutual
    unfolding parts erase

    parts_outside : (D : Ghost) (p : Position) → HonestGhost B D → Clear p t → subterm p t ≡ erase D → All (BlockOutside t) (parts p D)
    parts_outside (rest x) p h c e = tt
    parts_outside (todo x) p h c e = tt
    parts_outside (work o j ks []) p h c e = rw (stills_parts h.1.0 p j 0) tt
    parts_outside (work o j ks (s ∷ ss)) p h c e =
        all_parts_outside ks p j 0 h.0 c (root_unmarked t p o ks e h.1.0) (arguments_stand t p o ks e)

    all_parts_outside : (ks : Ghosts) (p : Position) (j i : ℕ) → HonestGhosts B ks → Clear p t → (label (subterm p t)).marked ≡ false → Stand t p i ks →
        All (BlockOutside t) (all_parts p j i ks)
    all_parts_outside gnil p j i h c m e = tt
    all_parts_outside (gcons own d ks) p j i h c m e =
        all_append (BlockOutside t) (parts (p ++ (i ∷ [])) d) (all_parts p j (suc i) ks) (parts_outside d (p ++ (i ∷ [])) h.0 (clear_below p i t c m) e.0)
        (all_parts_outside ks p j (suc i) h.1 c m e.1)
    all_parts_outside (gcons (lent l) d ks) p j i h c m e = (
      all_append (OrderOutside t) (list (p ++ (i ∷ [])) d) (Order.exit (p ++ (i ∷ [])) j ∷ [])
          (list_outside d (p ++ (i ∷ [])) h.0 (clear_below p i t c m) e.0) (tt, tt),
      all_append (BlockOutside t) (parts (p ++ (i ∷ [])) d) (all_parts p j (suc i) ks) (parts_outside d (p ++ (i ∷ [])) h.0 (clear_below p i t c m) e.0)
          (all_parts_outside ks p j (suc i) h.1 c m e.1),
    )

  all_outside : (D : Ghost) → HonestGhost B D → t ≡ erase D → All (BlockOutside t) (all D)
  unfolding subterm
  all_outside D h e =
      (all_append (OrderOutside t) (list [] D) (Order.bingo ∷ []) (list_outside D [] h tt e) (tt, tt), parts_outside D [] h tt e)

pub orders_clear : (B : Book) (L : Limits) (s : State) (D : Ghost) (bs : List Block) → Inv B L s D bs → HonestGhost B D → Outside s
orders_clear B L s D bs inv hn =
    let t : Marked = s.term in
    all_orders (OrderOutside t) inv tt
    (all_of (BlockOutside t) bs
    (λ x m. all_in (BlockOutside t) x (all D) (all_outside B t D hn inv.is_term) (same_in bs (all D) inv.same x m)))
