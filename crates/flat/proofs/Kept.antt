-- Every state that has the invariant meets the rules of a saved point. Assumes nothing.
use mathlib.Core.Bool.{false}
use mathlib.Core.List.{List, [], ◌∷◌, ◌++◌}
use mathlib.Core.Logic.{◌⊎◌, inl, inr}
use mathlib.Core.Path.{◌≡◌, refl, sym, ◌∙◌, ap, ap₂, subst}
use Prim.Native.Nat.{ℕ, zero, suc, ◌+◌, ◌<◌, ◌≤◌}
use native.Mathlib.Omega.{arith}
use lib.ListN.{get_or, length, drop}
use Rattle.paper.specs.Tree.{label, preorder, size, Position, subterm}
use Rattle.paper.specs.Strategy.{Step}
use Rattle.paper.specs.Book.{Term, Book, arity, steps}
use Rattle.paper.specs.Marks.{Marked, plain}
use Rattle.paper.specs.Machine.{Order, orders, Limits, exceeds}
use Rattle.paper.specs.Idle.{Queued}
use Rattle.paper.specs.Sound.{In, Unnamed, Sound}
use Rattle.paper.proofs.Ghost.{Ghost}
use Rattle.paper.proofs.Invariant.{Inv, root_label, all}
use Rattle.paper.proofs.Numbers.{tally, tally_append}
use Rattle.paper.proofs.Stack
use Rattle.paper.proofs.Stack.{bottom, blocks_same, blocks_other, same_in}
use Rattle.paper.proofs.Tests.{eqb_cases}
use Rattle.paper.proofs.Trees.{size_preorder}
use Rattle.paper.proofs.View.{Block, block, list}
use Rattle.flat.specs.Machine.{Frame, FlatUnit, FlatState, next_count}
use Rattle.flat.specs.Rules.{InGroup, AtJoin, nth_frame, jobs, exits_to, upto, stack}
use Rattle.flat.specs.Relation.{Valid, offset, Rooted, Some, recount, Placed, PlacedUnit, at, Ranked, list_of, frame_of, stack_of, unit_of, GoodFrame, GoodFrames, Rests, Under, Stacked}
use Rattle.flat.specs.Meets as Point
use Rattle.flat.specs.Meets.{named, Job, Taken, Carries, Holds, frame, Meets}
use Rattle.flat.proofs.Alone.{rooted_of}
use Rattle.flat.proofs.Counts.{FrameAt, frame_low}
use Rattle.flat.proofs.Held.{lent_unnamed, room_is}
use Rattle.flat.proofs.Lists.{upto_same}
use Rattle.flat.proofs.Offsets.{symbol_at, offset_inside, argument_offset, correct_arguments, correct_subterm}
use Rattle.flat.proofs.Relation.{Tally, paper_state, flat_state, Good}
use Rattle.flat.proofs.Rules.{JobOf, job_of, job_in, placed_frame, rules_here}
use Rattle.flat.proofs.Course.{FlatInv, flat_inv}
use Rattle.flat.proofs.Sites.{in_frame, frame_unique, good_frame, valid_last, holder_of}
use Rattle.flat.proofs.Stacks.{map_length, stack_length, list_at, unit_at}
use Rattle.flat.proofs.Steps.{Settled}

-- WHAT A STACK ENDS IN

unfoldable sleeps : Order → ℕ
sleeps (Order.visit p) = 0
sleeps (Order.fork p j) = 0
sleeps (Order.join j c) = 0
sleeps (Order.exit p j) = 0
sleeps (Order.whole p k) = 0
sleeps Order.sleep = 1
sleeps Order.bingo = 0

unfoldable bingos : Order → ℕ
bingos (Order.visit p) = 0
bingos (Order.fork p j) = 0
bingos (Order.join j c) = 0
bingos (Order.exit p j) = 0
bingos (Order.whole p k) = 0
bingos Order.sleep = 0
bingos Order.bingo = 1

no_sleeps : (j : ℕ) (p : Position) (ss : List Step) → tally sleeps (orders j p ss) ≡ 0
unfolding tally orders sleeps
no_sleeps j p [] = refl
no_sleeps j p (Step.visit i ∷ ss) = omega (arith, no_sleeps j p ss)
no_sleeps j p (Step.fork i ∷ ss) = omega (arith, no_sleeps j p ss)
no_sleeps j p (Step.join c ∷ ss) = omega (arith, no_sleeps (suc j) p ss)
no_sleeps j p (Step.whole ∷ ss) = omega (arith, no_sleeps j p ss)

no_bingos : (j : ℕ) (p : Position) (ss : List Step) → tally bingos (orders j p ss) ≡ 0
unfolding tally orders bingos
no_bingos j p [] = refl
no_bingos j p (Step.visit i ∷ ss) = omega (arith, no_bingos j p ss)
no_bingos j p (Step.fork i ∷ ss) = omega (arith, no_bingos j p ss)
no_bingos j p (Step.join c ∷ ss) = omega (arith, no_bingos (suc j) p ss)
no_bingos j p (Step.whole ∷ ss) = omega (arith, no_bingos j p ss)

sleep_in : (B : Book) (gs : List Placed) → 1 ≤ tally sleeps (list_of B gs) → In Placed.sleep gs
unfolding list_of tally sleeps
sleep_in B [] l = absurd (omega (arith, l))
sleep_in B (Placed.job p o zero c m ∷ gs) l = inr (sleep_in B gs (omega (arith, l)))
sleep_in B (Placed.job p o (suc k) c m ∷ gs) l =
    let a = tally_append sleeps (orders m p (recount c (drop k (steps B o)))) (list_of B gs) in
    let b = no_sleeps m p (recount c (drop k (steps B o))) in inr (sleep_in B gs (omega (arith, a, b, l)))
sleep_in B (Placed.exit w i q m ∷ gs) l = inr (sleep_in B gs (omega (arith, l)))
sleep_in B (Placed.sleep ∷ gs) l = inl refl
sleep_in B (Placed.bingo ∷ gs) l = inr (sleep_in B gs (omega (arith, l)))

bingo_in : (B : Book) (gs : List Placed) → 1 ≤ tally bingos (list_of B gs) → In Placed.bingo gs
unfolding list_of tally bingos
bingo_in B [] l = absurd (omega (arith, l))
bingo_in B (Placed.job p o zero c m ∷ gs) l = inr (bingo_in B gs (omega (arith, l)))
bingo_in B (Placed.job p o (suc k) c m ∷ gs) l =
    let a = tally_append bingos (orders m p (recount c (drop k (steps B o)))) (list_of B gs) in
    let b = no_bingos m p (recount c (drop k (steps B o))) in inr (bingo_in B gs (omega (arith, a, b, l)))
bingo_in B (Placed.exit w i q m ∷ gs) l = inr (bingo_in B gs (omega (arith, l)))
bingo_in B (Placed.sleep ∷ gs) l = inr (bingo_in B gs (omega (arith, l)))
bingo_in B (Placed.bingo ∷ gs) l = inl refl

block_tally : (μ : Order → ℕ) (v : ℕ) (b : Block) (bs : List Block) → In b bs → v ≡ b.label.owner → tally μ b.list ≤ tally μ (Stack.blocks_of v bs)
block_tally μ v b [] h e = absurd h
block_tally μ v b (x ∷ bs) (inl q) e =
    let f : v ≡ x.label.owner = e ∙ ap (λ (z : Block). z.label.owner) q in
    omega (arith, ap (tally μ) (blocks_same v x bs f), tally_append μ x.list (Stack.blocks_of v bs), ap (λ (z : Block). tally μ z.list) q)
block_tally μ v b (x ∷ bs) (inr h) e =
    elim (eqb_cases v x.label.owner) [
      | inl p ↦ omega (arith, ap (tally μ) (blocks_same v x bs p.1), tally_append μ x.list (Stack.blocks_of v bs), block_tally μ v b bs h e)
      | inr p ↦ omega (arith, ap (tally μ) (blocks_other v x bs p.1), block_tally μ v b bs h e)
    ]

-- a stack has SLEEP in it, or BINGO if it is unit 0's
abbrev Ends : ℕ → List Placed → Type 0
Ends zero gs = In Placed.bingo gs
Ends (suc v) gs = In Placed.sleep gs

-- FRAMES

pub frame_is : (t : Term) (gs : List Placed) (i : ℕ) (g : Placed) → FrameAt gs i g → nth_frame i (stack_of t gs) ≡ frame_of t g
frame_is t gs i g h =
    let (x, f, e) = placed_frame t gs i (frame_low gs i g h) in e ∙ ap (frame_of t) (frame_unique gs i x g f h)

module _ (B : Book) (sound : Sound B) (settled : Settled B) (L : Limits) (w : Marked) (U : List PlacedUnit) (good : Good B (plain w) U) (n : Tally) (j : ℕ) (D : Ghost)
    (bs : List Block) (inv : Inv B L (paper_state B w U n j) D bs) where
  abbrev t : Term
  t = plain w

  abbrev fr : ℕ → List Placed
  fr v = (at U v).frames

  abbrev S : FlatState
  S = flat_state w U n

  stack_is : (v : ℕ) → stack S v ≡ stack_of t (fr v)
  stack_is v = ap (λ (x : FlatUnit). x.stack) (unit_at t U v)

  ended : (v : ℕ) → Ends v (fr v)
  unfolding Stack.list_of bottom tally sleeps bingos
  ended zero =
      let r : Block = block root_label (list [] D ++ (Order.bingo ∷ [])) in
      let h : In r bs = same_in (all D) bs (λ φ. sym (inv.same φ)) r (inl refl) in
      let a = ap (tally bingos) (sym (inv.fits 0).0 ∙ list_at B U 0) in
      let b = tally_append bingos (Stack.blocks_of 0 bs) [] in
      let c = block_tally bingos 0 r bs h refl in
      let d = tally_append bingos (list [] D) (Order.bingo ∷ []) in
      bingo_in B (fr 0) (omega (arith, a, b, c, d))
  ended (suc v) =
      let a = ap (tally sleeps) (sym (inv.fits (suc v)).0 ∙ list_at B U (suc v)) in
      let b = tally_append sleeps (Stack.blocks_of (suc v) bs) (Order.sleep ∷ []) in
      sleep_in B (fr (suc v)) (omega (arith, a, b))

  -- THE STACKS

  operator_at : (o : ℕ) (p : Position) → Rooted o p t → get_or (preorder t) (offset p t) 0 ≡ o
  operator_at o p r = symbol_at p t r.0 ∙ r.1

  -- an argument that is taken
  taken : (p q : Position) (o k c m x : ℕ) → Rooted o q t → p ≡ q ++ (x ∷ []) → Valid p t → Unnamed x (drop k (steps B o)) →
      Taken B (preorder t) (Frame.job (offset q t) (suc k) c) (offset p t)
  taken p q o k c m x r e v un =
      let s = operator_at o q r in
      let l : x < arity B (label (subterm q t)) =
      (let a = valid_last q x t (subst (λ (z : Position). Valid z t) e v) in
      omega (arith, a, (correct_arguments (arity B) (subterm q t) (correct_subterm (arity B) q t r.0 good.correct)).0)) in (
        x,
        subst (λ (z : ℕ). x < arity B z) (sym (symbol_at q t r.0)) l,
        ap (λ (z : Position). offset z t) e ∙ sym (argument_offset (arity B) q x t r.0 good.correct l),
        subst (λ (z : ℕ). Unnamed x (drop k (steps B z))) (sym s) un,
      )

  frame_at_is : (v i : ℕ) (g : Placed) → FrameAt (fr v) i g → frame S v i ≡ frame_of t g
  frame_at_is v i g h = ap (nth_frame i) (stack_is v) ∙ frame_is t (fr v) i g h

  carries : (v : ℕ) (p : Position) (gs : List Placed) → ((g : Placed) → In g gs → In g (fr v)) → GoodFrames B t gs → Valid p t → Under B p gs →
      Carries B (preorder t) (frame S) (offset p t) (stack_of t gs)
  unfolding frame_of offset
  carries v p [] sub g vp u = u
  carries v p (Placed.job q o zero c m ∷ gs) sub g vp u = u
  carries v p (Placed.job q o (suc k) c m ∷ gs) sub g vp u = taken p q o k c m u.0 g.0.0 u.1 vp u.2
  carries v p (Placed.exit x i q m ∷ gs) sub g vp u =
      let h = sub (Placed.exit x i q m) (inl refl) in
      let (p', o, k, c, y, f, gr, e) = holder_of B (fr x) i m q (good.exits v x i q m h).1 in
      let r = rooted_of B t p' o (suc k) c m (good_frame B t (fr x) i (Placed.job p' o (suc k) c m) (good.jobs x) f) in
      subst (λ (z : Frame). Taken B (preorder t) z (offset p t)) (sym (frame_at_is x i (Placed.job p' o (suc k) c m) f))
      (taken p p' o k c m y r (u ∙ e) vp
      (lent_unnamed B sound settled L w U good n j D bs inv x i p' o k c m f v x i y m (subst (λ (z : Position). In (Placed.exit x i z m) (fr v)) e h)))
  carries v p (Placed.sleep ∷ gs) sub g vp u = u
  carries v p (Placed.bingo ∷ gs) sub g vp u = ap (λ (z : Position). offset z t) u

  holds : (gs : List Placed) → GoodFrames B t gs → Rests B gs → Holds B (preorder t) (stack_of t gs)
  unfolding frame_of
  holds [] g r = r
  holds (Placed.job p o zero c m ∷ gs) g r = r
  holds (Placed.job p o (suc k) c m ∷ gs) g r =
      let s = sym (operator_at o p g.0.0) in
      (subst (λ (z : ℕ). AtJoin (drop k (steps B z))) s r.0, subst (λ (z : ℕ). 1 ≤ next_count (drop k (steps B z))) s r.1)
  holds (Placed.exit v i q m ∷ gs) g r = r
  holds (Placed.sleep ∷ gs) g r = r
  holds (Placed.bingo ∷ gs) g r = r

  ends_tail : (v : ℕ) (x : Placed) (gs : List Placed) → (x ≡ Placed.sleep → ⊥) → (x ≡ Placed.bingo → ⊥) → Ends v (x ∷ gs) → Ends v gs
  ends_tail zero x gs a b (inl e) = absurd (b (sym e))
  ends_tail zero x gs a b (inr h) = h
  ends_tail (suc v) x gs a b (inl e) = absurd (a (sym e))
  ends_tail (suc v) x gs a b (inr h) = h

  stacked : (v : ℕ) (gs : List Placed) → ((g : Placed) → In g gs → In g (fr v)) → GoodFrames B t gs → Stacked B gs → Ends v gs →
      Point.Stacked B (preorder t) (frame S) v (stack_of t gs)
  unfolding frame_of
  stacked zero [] sub g st en = en
  stacked (suc v) [] sub g st en = en
  stacked v (Placed.job p o k c m ∷ gs) sub g st en = (
    carries v p gs (λ x h. sub x (inr h)) g.1 (rooted_of B t p o k c m g.0).0 st.0,
    stacked v gs (λ x h. sub x (inr h)) g.1 st.1
        (ends_tail v (Placed.job p o k c m) gs (λ e. (let z : ◌≡◌ {A = ℕ} 0 1 = cc in omega arith)) (λ e. (let z : ◌≡◌ {A = ℕ} 0 1 = cc in omega arith)) en),
  )
  stacked v (Placed.exit x i q m ∷ gs) sub g st en = (
    holds gs g.1 st.0,
    stacked v gs (λ y h. sub y (inr h)) g.1 st.1
        (ends_tail v (Placed.exit x i q m) gs (λ e. (let z : ◌≡◌ {A = ℕ} 0 1 = cc in omega arith)) (λ e. (let z : ◌≡◌ {A = ℕ} 0 1 = cc in omega arith)) en),
  )
  stacked zero (Placed.sleep ∷ gs) sub g st (inl e) = absurd (let z : ◌≡◌ {A = ℕ} 0 1 = cc in omega arith)
  stacked zero (Placed.sleep ∷ gs) sub g st (inr h) = absurd (subst (λ (z : List Placed). In Placed.bingo z) st h)
  stacked (suc v) (Placed.sleep ∷ gs) sub g st en = (ap (stack_of t) st, omega arith)
  stacked zero (Placed.bingo ∷ gs) sub g st en = (ap (stack_of t) st, refl)
  stacked (suc v) (Placed.bingo ∷ gs) sub g st (inl e) = absurd (let z : ◌≡◌ {A = ℕ} 0 1 = cc in omega arith)
  stacked (suc v) (Placed.bingo ∷ gs) sub g st (inr h) = absurd (subst (λ (z : List Placed). In Placed.sleep z) st h)

  -- EACH JOB

  job_rule : (a k c : ℕ) (p : Position) (o m : ℕ) → a ≡ offset p t → GoodFrame B t (Placed.job p o k c m) → Job B (preorder t) a k c
  job_rule a zero c p o m e g = ((let x = offset_inside p t g.0.0 in let y = size_preorder t in omega (arith, e, x, y)), g.1)
  job_rule a (suc k) c p o m e g =
      let s : o ≡ get_or (preorder t) a 0 = sym (operator_at o p g.0) ∙ ap (λ (z : ℕ). get_or (preorder t) z 0) (sym e) in
      let x = offset_inside p t g.0.0 in
      let y = size_preorder t in
      let P : ℕ → Type 0 = λ z. let ss = drop k (steps B z) in Some ss × (c ≤ next_count ss) × (InGroup ss ⊎ (c ≡ next_count ss)) in
      let r : P (get_or (preorder t) a 0) = subst P s (g.1, g.2, g.3) in
      (omega (arith, e, x, y), r.0, r.1, r.2)

  job_at : (v a k c : ℕ) → JobOf t (fr v) a k c → Job B (preorder t) a k c
  job_at v a k c (job_of p o m h e) =
      let (i, f) = in_frame (fr v) (Placed.job p o k c m) h in
      job_rule a k c p o m e (good_frame B t (fr v) i (Placed.job p o k c m) (good.jobs v) f)

  -- ROOM

  exits_are : (u i : ℕ) → upto (λ v. exits_to u i (stack_of t (fr v))) (length U) ≡ upto (λ v. exits_to u i (stack S v)) (length S.units)
  exits_are u i =
      upto_same (λ v. exits_to u i (stack_of t (fr v))) (λ v. exits_to u i (stack S v)) (length U) (λ v. ap (exits_to u i) (sym (stack_is v)))
      ∙ ap (upto (λ v. exits_to u i (stack S v))) (sym (map_length (unit_of t) U))

  abbrev Roomy : ℕ → ℕ → ℕ → ℕ → Type 0
  Roomy u i a k =
      named (drop k (steps B (get_or (preorder t) a 0))) + jobs (frame S u (suc i) ∷ []) + upto (λ v. exits_to u i (stack S v)) (length S.units)
      ≤ arity B (get_or (preorder t) a 0)

  room_at : (u i a k c : ℕ) (g : Placed) → FrameAt (fr u) i g → frame_of t g ≡ Frame.job a (suc k) c → Roomy u i a k
  unfolding frame_of
  room_at u i a k c (Placed.job p o zero c' m) h e = absurd (let z : ◌≡◌ {A = ℕ} 0 1 = cc in omega arith)
  room_at u i a k c (Placed.job p o (suc k') c' m) h e =
      let e₁ : a ≡ offset p t = cc in
      let e₂ : k ≡ k' = cc in
      let r = rooted_of B t p o (suc k') c' m (good_frame B t (fr u) i (Placed.job p o (suc k') c' m) (good.jobs u) h) in
      let s : o ≡ get_or (preorder t) a 0 = sym (operator_at o p r) ∙ ap (λ (z : ℕ). get_or (preorder t) z 0) (sym e₁) in
      let x = room_is B sound settled L w U good n j D bs inv u i p o k' c' m h in
      let f : nth_frame (suc i) (stack_of t (fr u)) ≡ frame S u (suc i) = ap (nth_frame (suc i)) (sym (stack_is u)) in
      let y : named (drop k' (steps B o)) ≡ named (drop k (steps B (get_or (preorder t) a 0))) =
      ap₂ (λ (z d : ℕ). named (drop z (steps B d))) (sym e₂) s in
      omega (arith, x, y, exits_are u i, ap (λ (z : Frame). jobs (z ∷ [])) f, ap (arity B) s)
  room_at u i a k c (Placed.exit x y q m) h e = absurd (let z : ◌≡◌ {A = ℕ} 0 1 = cc in omega arith)
  room_at u i a k c Placed.sleep h e = absurd (let z : ◌≡◌ {A = ℕ} 0 1 = cc in omega arith)
  room_at u i a k c Placed.bingo h e = absurd (let z : ◌≡◌ {A = ℕ} 0 1 = cc in omega arith)

  room_here : (u i a k c : ℕ) → i < length (stack S u) → frame S u i ≡ Frame.job a (suc k) c → Roomy u i a k
  room_here u i a k c l e =
      let (g, h, r) = placed_frame t (fr u) i (omega (arith, l, ap length (stack_is u), stack_length t (fr u))) in
      room_at u i a k c g h (sym r ∙ ap (nth_frame i) (sym (stack_is u)) ∙ e)

  some_unit : (W : List PlacedUnit) → In Placed.bingo (at W 0).frames → 1 ≤ length W
  some_unit [] (inl h) = absurd (let z : ◌≡◌ {A = ℕ} 0 1 = cc in omega arith)
  some_unit [] (inr h) = absurd h
  some_unit (x ∷ W) h = omega arith

  meets_here : Ranked U n.queue → Queued (paper_state B w U n j) → exceeds L.symbols (size w) ≡ false → Meets B L S
  meets_here ranked queued sz =
      let r = rules_here B sound settled L good n j D bs inv ranked queued sz in
      record {
        complete = r.term;
        short = r.short;
        sizes = r.sizes;
        marks = r.marks;
        within = inv.within;
        some_unit = (let a = some_unit U (ended 0) in omega (arith, a, map_length (unit_of t) U));
        job = λ v a k c h. job_at v a k c (job_in t (fr v) a k c (subst (λ (z : List Frame). In (Frame.job a k c) z) (stack_is v) h));
        distinct = r.distinct;
        stacks = λ v l. subst (λ (z : List Frame). Point.Stacked B (preorder t) (frame S) v z) (sym (stack_is v))
            (stacked v (fr v) (λ g h. h) (good.jobs v) (good.stacked v) (ended v));
        exits = r.exits;
        counts = r.counts;
        room = room_here;
        placing = r.placing;
        ranked = r.ranked;
        once = r.once;
        idle = r.idle;
      }

-- EVERY STATE WITH THE INVARIANT MEETS THE RULES
pub inv_meets : (B : Book) → Sound B → Settled B → (L : Limits) (s : FlatState) → FlatInv B L s → Meets B L s
inv_meets B sound settled L s (flat_inv w U n j D bs e good inv ranked queued sz) =
    subst (Meets B L) (sym e) (meets_here B sound settled L w U good n j D bs inv ranked queued sz)
