-- What stands on the units' lists where the invariant holds: an idle unit waits at a JOIN or sleeps, unit 0 never sleeps, and with no order left of any part
-- the lists have SLEEP alone, unit 0's BINGO. Assumes nothing.
use mathlib.Core.List.{List, [], ◌∷◌, ◌++◌}
use mathlib.Core.Logic.{inl, inr}
use mathlib.Core.Path.{◌≡◌, refl, sym, ◌∙◌, ap, ap₂, subst}
use Prim.Native.Nat.{ℕ, zero, suc}
use native.Mathlib.Omega.{arith}
use Rattle.paper.specs.Tree.{Position}
use Rattle.paper.specs.Strategy.{Step}
use Rattle.paper.specs.Book.{Book}
use Rattle.paper.specs.Machine.{Order, orders, State, Limits, unit}
use Rattle.paper.specs.Idle.{IsIdle, Waits, Done}
use Rattle.paper.proofs.Ghost.{own, lent, Ghost, rest, todo, work, Ghosts, gnil, gcons, Still}
use Rattle.paper.proofs.Invariant.{root_label, all, Inv}
use Rattle.paper.proofs.Local.{blocks_tally}
use Rattle.paper.proofs.Numbers.{tally, over, tally_append}
use Rattle.paper.proofs.Stack.{Same, same_in, Waiting, bottom, blocks_of, list_of, list_same, list_none}
use Rattle.paper.proofs.View.{Block, block, list, lists, parts, all_parts, sum, sum_append, still_list, still_parts}

-- NO PART HAS A SLEEP: it stands at the bottom of a list alone
unfoldable sleeps : Order → ℕ
sleeps (Order.visit p) = 0
sleeps (Order.fork p j) = 0
sleeps (Order.join j c) = 0
sleeps (Order.exit p j) = 0
sleeps (Order.whole p k) = 0
sleeps Order.sleep = 1
sleeps Order.bingo = 0

steps_awake : (j : ℕ) (p : Position) (ss : List Step) → tally sleeps (orders j p ss) ≡ 0
unfolding tally orders sleeps
steps_awake j p [] = refl
steps_awake j p (Step.visit i ∷ ss) = omega (arith, steps_awake j p ss)
steps_awake j p (Step.fork i ∷ ss) = omega (arith, steps_awake j p ss)
steps_awake j p (Step.join c ∷ ss) = omega (arith, steps_awake (suc j) p ss)
steps_awake j p (Step.whole ∷ ss) = omega (arith, steps_awake j p ss)

mutual
  unfolding list tally sleeps

  list_awake : (p : Position) (D : Ghost) → tally sleeps (list p D) ≡ 0
  list_awake p (rest t) = refl
  list_awake p (todo t) = refl
  list_awake p (work o j ks ss) = omega (arith, tally_append sleeps (lists p 0 ks) (orders j p ss), steps_awake j p ss, lists_awake p 0 ks)

  lists_awake : (p : Position) (i : ℕ) (ks : Ghosts) → tally sleeps (lists p i ks) ≡ 0
  lists_awake p i gnil = refl
  lists_awake p i (gcons own d ks) =
      omega (arith, tally_append sleeps (list (p ++ (i ∷ [])) d) (lists p (suc i) ks), list_awake (p ++ (i ∷ [])) d, lists_awake p (suc i) ks)
  lists_awake p i (gcons (lent l) d ks) = lists_awake p (suc i) ks

mutual
  unfolding parts sum tally sleeps

  parts_awake : (p : Position) (D : Ghost) → sum (over sleeps) (parts p D) ≡ 0
  parts_awake p (rest t) = refl
  parts_awake p (todo t) = refl
  parts_awake p (work o j ks ss) = all_parts_awake p j 0 ks

  all_parts_awake : (p : Position) (j i : ℕ) (ks : Ghosts) → sum (over sleeps) (all_parts p j i ks) ≡ 0
  all_parts_awake p j i gnil = refl
  all_parts_awake p j i (gcons own d ks) =
      omega (
        arith,
        sum_append (over sleeps) (parts (p ++ (i ∷ [])) d) (all_parts p j (suc i) ks),
        parts_awake (p ++ (i ∷ [])) d,
        all_parts_awake p j (suc i) ks,
      )
  all_parts_awake p j i (gcons (lent l) d ks) =
      omega (
        arith,
        sum_append (over sleeps) (parts (p ++ (i ∷ [])) d) (all_parts p j (suc i) ks),
        parts_awake (p ++ (i ∷ [])) d,
        all_parts_awake p j (suc i) ks,
        tally_append sleeps (list (p ++ (i ∷ [])) d) (Order.exit (p ++ (i ∷ [])) j ∷ []),
        list_awake (p ++ (i ∷ [])) d,
      )

-- AN IDLE UNIT

-- its own orders, without a SLEEP, over the bottom of its list
at_join_or_sleep : (v : ℕ) (os : List Order) → tally sleeps os ≡ 0 → Waiting (os ++ bottom v) → Waits v (os ++ bottom v)
unfolding bottom tally sleeps
at_join_or_sleep zero [] e w = absurd w
at_join_or_sleep (suc v) [] e w = inr (omega arith, refl)
at_join_or_sleep v (Order.visit p ∷ os) e w = absurd w
at_join_or_sleep v (Order.fork p j ∷ os) e w = absurd w
at_join_or_sleep v (Order.join j zero ∷ os) e w = absurd w
at_join_or_sleep v (Order.join j (suc c) ∷ os) e w = inl (j, c, os ++ bottom v, refl)
at_join_or_sleep v (Order.exit p j ∷ os) e w = absurd w
at_join_or_sleep v (Order.whole p k ∷ os) e w = absurd w
at_join_or_sleep v (Order.sleep ∷ os) e w = absurd (omega arith)
at_join_or_sleep v (Order.bingo ∷ os) e w = absurd w

module _ (B : Book) (L : Limits) (s : State) (D : Ghost) (bs : List Block) (inv : Inv B L s D bs) where
  blocks_awake : (v : ℕ) → tally sleeps (blocks_of v bs) ≡ 0
  unfolding sum tally sleeps
  blocks_awake v =
      omega (
        arith,
        blocks_tally sleeps v bs,
        inv.same (over sleeps),
        tally_append sleeps (list [] D) (Order.bingo ∷ []),
        list_awake [] D,
        parts_awake [] D,
      )

  pub idle_waits : (v : ℕ) → IsIdle s v → Waits v (unit s.units v).list
  unfolding list_of
  idle_waits v i =
      subst (Waits v) (sym (inv.fits v).0) (at_join_or_sleep v (blocks_of v bs) (blocks_awake v) ((inv.fits v).1 i.1))

  -- NO ORDER LEFT: the main part's block is the only one
  only_block : (ys : List Block) (x : Block) → Same ys (x ∷ []) → ys ≡ x ∷ []
  unfolding sum
  only_block [] x e = absurd (omega (arith, e (λ b. 1)))
  only_block (y ∷ []) x e = elim (same_in (y ∷ []) (x ∷ []) e y (inl refl)) [ inl p ↦ ap (λ (z : Block). z ∷ []) p | inr p ↦ absurd p ]
  only_block (y ∷ z ∷ ys) x e = absurd (omega (arith, e (λ b. 1)))

  pub still_done : Still D → Done s
  unfolding list_of bottom blocks_of
  still_done h =
      let b : List Block = block root_label (Order.bingo ∷ []) ∷ [] in
      let is : bs ≡ b = only_block bs (block root_label (Order.bingo ∷ [])) (λ φ. inv.same φ ∙ alone φ) in (
        (inv.fits 0).0 ∙ ap (list_of 0) is ∙ list_same 0 (block root_label (Order.bingo ∷ [])) [] refl,
        λ v. (inv.fits (suc v)).0 ∙ ap (list_of (suc v)) is ∙ list_none (suc v) b ((λ e. absurd (omega arith)), tt),
      )
    where
      alone : (φ : Block → ℕ) → sum φ (all D) ≡ sum φ (block root_label (Order.bingo ∷ []) ∷ [])
      alone φ = ap (sum φ) (ap₂ (λ (os : List Order) (ps : List Block). block root_label (os ++ (Order.bingo ∷ [])) ∷ ps) (still_list h []) (still_parts h []))
