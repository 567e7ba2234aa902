-- The invariant of a state on lists, which entries keep, and the run on lists beside the paper's run: for every sound and settled book. Assumes nothing.
use mathlib.Core.Bool.{Bool, true, false}
use mathlib.Core.List.{List, [], ◌∷◌, map}
use mathlib.Core.Logic.{inl, inr}
use mathlib.Core.Option.{Option, none, some}
use mathlib.Core.Path.{◌≡◌, refl, sym, ◌∙◌, ap, ap₂, subst}
use Prim.Native.Nat.{ℕ, zero, suc, ◌+◌, ◌-◌, ◌<◌}
use native.Mathlib.Omega.{arith}
use lib.Dec.{eqb}
use lib.ListN.{length, replicate}
use Rattle.paper.specs.Tree.{label, preorder, size, Correct, Position, subterm, replace}
use Rattle.paper.specs.Book.{Term, Book, arity}
use Rattle.paper.specs.Match.{rewrite_over}
use Rattle.paper.specs.Marks.{Marked, cells, plain, bare, to_do, mark_at}
use Rattle.paper.specs.Machine
use Rattle.paper.specs.Machine.{Order, UnitState, unit_state, State, Event, Outcome, Limits, exceeds, in_force, numbers_from, start, longest}
use Rattle.paper.specs.Run
use Rattle.paper.specs.Run.{Answer, run, run_from}
use Rattle.paper.specs.Idle.{once_if_idle, Queued}
use Rattle.paper.specs.Sound.{In, Sound}
use Rattle.paper.proofs.Demand3.{first, start_inv}
use Rattle.paper.proofs.Entry.{entry_next}
use Rattle.paper.proofs.Ghost.{Ghost, todo}
use Rattle.paper.proofs.Invariant.{Inv, Next, n_going}
use Rattle.paper.proofs.Marks.{plain_bare}
use Rattle.paper.proofs.Queue.{QueuedAfter, entry_queued, start_queued}
use Rattle.paper.proofs.Trees.{size_preorder}
use Rattle.paper.proofs.View.{Block}
use Rattle.flat.specs.Machine as Flat
use Rattle.flat.specs.Machine.{Frame, FlatUnit, flat_unit, FlatState, FlatOutcome, flat_entry, flat_start}
use Rattle.flat.specs.Run.{FlatAnswer, after, flat_run_from, flat_run, flatten}
use Rattle.flat.specs.Relation.{offset, Placed, PlacedUnit, placed_unit, asleep, at, behind, place, Ranked, list_of, unit_state_of, frame_of, unit_of, GoodFrames, Stacked, Related}
use Rattle.flat.proofs.Sizes.{term_sizes}
use Rattle.flat.proofs.Steps.{Settled}
use Rattle.flat.proofs.Marks.{plain_size, mark_at_size, marks_none}
use Rattle.flat.proofs.Relation.{Tally, paper_state, flat_of, flat_state, Good, Both, b_going, b_ended, views_related}
use Rattle.flat.proofs.Ranks.{place_here, place_past, place_none}
use Rattle.flat.proofs.Entry.{entry_both}

-- THE LIMIT

-- a term within the limit stays so
abbrev Small : Limits → Outcome → Type 0
Small L (Machine.going ev s) = exceeds L.symbols (size s.term) ≡ false
Small L (Machine.ended e s) = exceeds L.symbols (size s.term) ≡ false

module _ (B : Book) (L : Limits) (u : ℕ) (s : State) (sz : exceeds L.symbols (size s.term) ≡ false) where
  small_rewrite : (os : List Order) (p : Position) (k : ℕ) (r : Marked) (x y : Bool) → exceeds L.symbols (size (replace p r s.term)) ≡ y →
      Small L (Machine.do_rewrite B L u s os p k r x y)
  unfolding Machine.do_rewrite
  small_rewrite os p k r true y e = sz
  small_rewrite os p k r false true e = sz
  small_rewrite os p k r false false e = e

  -- marks leave the size
  small_mark : (k : ℕ) (p : Position) → exceeds L.symbols (size (mark_at k p s.term)) ≡ false
  small_mark k p = subst (λ (x : ℕ). exceeds L.symbols x ≡ false) (sym (mark_at_size k p s.term)) sz

  small_whole : (os : List Order) (p : Position) (k : ℕ) (r : Option Marked) → Small L (Machine.do_whole B L u s os p k r)
  unfolding Machine.do_whole
  small_whole os p k none = small_mark k p
  small_whole os p k (some r) = small_rewrite os p k r (eqb s.rewrites L.budget) (exceeds L.symbols (size (replace p r s.term))) refl

  small_fork : (os : List Order) (p : Position) (j : ℕ) (z : Option ℕ) → Small L (Machine.do_fork B L u s os p j z)
  unfolding Machine.do_fork
  small_fork os p j none = sz
  small_fork os p j (some v) = sz

  small_join : (os : List Order) (j c : ℕ) → Small L (Machine.do_join B L u s os j c)
  unfolding Machine.do_join
  small_join os j zero = sz
  small_join os j (suc c) = sz

  small_order : (os : List Order) (o : Order) → Small L (Machine.carry_out B L u s os o)
  unfolding Machine.carry_out
  small_order os (Order.visit p) = small_mark (length (to_do B (subterm p s.term))) p
  small_order os (Order.fork p j) = small_fork os p j (longest s)
  small_order os (Order.join j c) = small_join os j c
  small_order os (Order.exit p j) = sz
  small_order os (Order.whole p k) = small_whole os p k (rewrite_over cells B.rules (subterm p s.term))
  small_order os Order.sleep = sz
  small_order os Order.bingo = sz

  small_turn : (b : Bool) (os : List Order) → Small L (Machine.turn B L u s b os)
  unfolding Machine.turn Machine.carry_out
  small_turn false os = sz
  small_turn true [] = sz
  small_turn true (o ∷ os) = small_order os o

  small_outcome : Small L (Machine.entry B L u s)
  unfolding Machine.entry Machine.turn
  small_outcome = small_turn (Machine.unit s.units u).busy (Machine.unit s.units u).list

  pub small_entry : {ev : Event} {s' : State} → Machine.entry B L u s ≡ Machine.going ev s' → exceeds L.symbols (size s'.term) ≡ false
  small_entry e = subst (Small L) e small_outcome

-- THE STATES OF A RUN

-- the invariant of a flat state: the paper's state and the ghost term beside it
pub data FlatInv (B : Book) (L : Limits) (f : FlatState) : Type 0 where
  flat_inv : (w : Marked) (U : List PlacedUnit) (n : Tally) (j : ℕ) (D : Ghost) (bs : List Block) → f ≡ flat_state w U n → Good B (plain w) U → Inv B L (paper_state B w U n j) D bs →
      Ranked U n.queue → Queued (paper_state B w U n j) → exceeds L.symbols (size w) ≡ false → FlatInv B L f

next_inv : {B : Book} {L : Limits} {u : ℕ} {s s' : State} {D : Ghost} {bs : List Block} {ev : Event} → Next B L u s D bs (Machine.going ev s') →
    (D' : Ghost) × (bs' : List Block) × Inv B L s' D' bs'
next_inv (n_going D' bs' inv hn sh c m l w) = (D', bs', inv)

module _ (B : Book) (L : Limits) (sound : Sound B) (settled : Settled B) where
  module _ (w : Marked) (U : List PlacedUnit) (n : Tally) (j : ℕ) (D : Ghost) (bs : List Block) (good : Good B (plain w) U) (inv : Inv B L (paper_state B w U n j) D bs)
      (ranked : Ranked U n.queue) (queued : Queued (paper_state B w U n j)) (u : ℕ) where
    pub both : Both B (flat_entry B L u (flat_state w U n)) (Machine.entry B L u (paper_state B w U n j))
    both = entry_both B L sound settled good n j u D bs inv ranked queued

    pub next : {ev : Event} {s' : State} → Machine.entry B L u (paper_state B w U n j) ≡ Machine.going ev s' →
        (D' : Ghost) × (bs' : List Block) × Inv B L s' D' bs'
    next e =
        next_inv (subst (λ (z : Outcome). Next B L u (paper_state B w U n j) D bs z) e (entry_next B L sound (paper_state B w U n j) queued u D bs inv))

    pub still_queued : {ev : Event} {s' : State} → Machine.entry B L u (paper_state B w U n j) ≡ Machine.going ev s' → Queued s'
    still_queued e = subst QueuedAfter e (unfold Machine.entry in entry_queued in_force B L u (paper_state B w U n j) queued)

  -- after an entry
  after_entry : (k : ℕ) (FlatOn : FlatState → FlatAnswer) (on : State → Answer) (fo : FlatOutcome) (po : Outcome) → Both B fo po →
      ((ev : Event) (w : Marked) (U : List PlacedUnit) (n : Tally) (j : ℕ) → Good B (plain w) U → Ranked U n.queue → po ≡ Machine.going ev (paper_state B w U n j) →
      FlatOn (flat_state w U n) ≡ flatten (on (paper_state B w U n j))) → after k FlatOn fo ≡ flatten (Run.after k on po)
  unfolding after Run.after flatten
  after_entry k FlatOn on fo po (b_going ev w U n j ef ep g d) h = rw (ef, ep) (h ev w U n j g d ep)
  after_entry k FlatOn on fo po (b_ended e w U n j ef ep g d) h = rw (ef, ep) refl

  pub same_from : (schedule : List ℕ) (k : ℕ) (w : Marked) (U : List PlacedUnit) (n : Tally) (j : ℕ) (D : Ghost) (bs : List Block) → Good B (plain w) U →
      Inv B L (paper_state B w U n j) D bs → Ranked U n.queue → Queued (paper_state B w U n j) →
      flat_run_from B L k schedule (flat_state w U n) ≡ flatten (run_from B L k schedule (paper_state B w U n j))
  unfolding flat_run_from run_from flatten Machine.entry
  same_from [] k w U n j D bs good inv ranked queued = refl
  same_from (u ∷ us) k w U n j D bs good inv ranked queued =
      after_entry k (flat_run_from B L (suc k) us) (run_from B L (suc k) us) (flat_entry B L u (flat_state w U n)) (Machine.entry B L u (paper_state B w U n j))
      (both w U n j D bs good inv ranked queued u)
      (λ ev w' U' n' j' g' d' e.
      let (D', bs', inv') = next w U n j D bs good inv ranked queued u e in
      same_from us (suc k) w' U' n' j' D' bs' g' inv' d' (still_queued w U n j D bs good inv ranked queued u e))

  -- an entry keeps it
  pub flat_next : (f f' : FlatState) (u : ℕ) → FlatInv B L f → flat_entry B L u f ≡ Flat.going f' → FlatInv B L f'
  flat_next f f' u (flat_inv w U n j D bs e good inv ranked queued sz) q =
      go (flat_entry B L u (flat_state w U n)) (Machine.entry B L u (paper_state B w U n j)) (both w U n j D bs good inv ranked queued u) refl
      (ap (flat_entry B L u) (sym e) ∙ q)
    where
      go : (fo : FlatOutcome) (po : Outcome) → Both B fo po → po ≡ Machine.entry B L u (paper_state B w U n j) → fo ≡ Flat.going f' → FlatInv B L f'
      go fo po (b_going ev w' U' n' j' ef ep g d) p q =
          let r : Machine.entry B L u (paper_state B w U n j) ≡ Machine.going ev (paper_state B w' U' n' j') = sym p ∙ ep in
          let (D', bs', inv') = next w U n j D bs good inv ranked queued u r in
          let x : f' ≡ flat_state w' U' n' = cc in
          flat_inv w' U' n' j' D' bs' x g inv' d (still_queued w U n j D bs good inv ranked queued u r) (small_entry B L u (paper_state B w U n j) sz r)
      go fo po (b_ended en w' U' n' j' ef ep g d) p q = absurd (let z : ◌≡◌ {A = ℕ} 0 1 = cc in omega arith)

  -- the answer's symbols are within the limit, whatever the ending
  abbrev Within : FlatAnswer → Type 0
  Within a = exceeds L.symbols (length a.symbols) ≡ false

  within_term : (w : Marked) → exceeds L.symbols (size w) ≡ false → exceeds L.symbols (length (preorder (plain w))) ≡ false
  within_term w e = subst (λ (x : ℕ). exceeds L.symbols x ≡ false) (sym (plain_size w) ∙ size_preorder (plain w)) e

  within_after : (k : ℕ) (on : FlatState → FlatAnswer) (fo : FlatOutcome) (po : Outcome) → Both B fo po → Small L po → ((f : FlatState) → fo ≡ Flat.going f → Within (on f)) →
      Within (after k on fo)
  unfolding after
  within_after k on fo po (b_going ev w U n j ef ep g d) sm h = rw ef (h (flat_state w U n) ef)
  within_after k on fo po (b_ended e w U n j ef ep g d) sm h = rw ef (within_term w (subst (Small L) ep sm))

  pub answer_within : (schedule : List ℕ) (k : ℕ) (f : FlatState) → FlatInv B L f → Within (flat_run_from B L k schedule f)
  unfolding flat_run_from
  answer_within [] k f (flat_inv w U n j D bs e good inv ranked queued sz) = subst (λ (z : FlatState). exceeds L.symbols (length z.symbols) ≡ false) (sym e) (within_term w sz)
  answer_within (u ∷ us) k f (flat_inv w U n j D bs e good inv ranked queued sz) =
      subst (λ (z : FlatState). Within (after k (flat_run_from B L (suc k) us) (flat_entry B L u z))) (sym e)
      (within_after k (flat_run_from B L (suc k) us) (flat_entry B L u (flat_state w U n)) (Machine.entry B L u (paper_state B w U n j))
      (both w U n j D bs good inv ranked queued u)
      (small_outcome B L u (paper_state B w U n j) sz)
      (λ f' q. answer_within us (suc k) f' (flat_next (flat_state w U n) f' u (flat_inv w U n j D bs refl good inv ranked queued sz) q)))

-- THE START

abbrev pub first_units : ℕ → Term → List PlacedUnit
first_units units t = placed_unit 0 (Placed.job [] (label t) 0 0 0 ∷ Placed.bingo ∷ []) ∷ map asleep (numbers_from 1 (units - 1))

abbrev pub nothing_yet : ℕ → Tally
nothing_yet units = record { rewrites = 0; granted = 0; kept = 0; queue = numbers_from 1 (units - 1); placed = [] }

asleep_at : (rs : List ℕ) (v : ℕ) → (at (map asleep rs) v).frames ≡ Placed.sleep ∷ []
asleep_at [] v = refl
asleep_at (r ∷ rs) zero = refl
asleep_at (r ∷ rs) (suc v) = asleep_at rs v

asleep_flat : (t : Term) (rs : List ℕ) → map Flat.asleep rs ≡ map (unit_of t) (map asleep rs)
unfolding frame_of
asleep_flat t [] = refl
asleep_flat t (r ∷ rs) = ap (λ (z : List FlatUnit). Flat.asleep r ∷ z) (asleep_flat t rs)

asleep_paper : (B : Book) (k m : ℕ) → replicate m Machine.asleep ≡ map (unit_state_of B) (map asleep (numbers_from (suc k) m))
unfolding numbers_from list_of
asleep_paper B k zero = refl
asleep_paper B k (suc m) = ap (λ (z : List UnitState). Machine.asleep ∷ z) (asleep_paper B (suc k) m)

-- the rank of each is its place
asleep_rank : (k m v : ℕ) → v < length (map asleep (numbers_from k m)) → ((at (map asleep (numbers_from k m)) v).rank ≡ k + v) × (place (k + v) (numbers_from k m) ≡ suc v)
unfolding numbers_from behind
asleep_rank k zero v l = absurd (omega arith)
asleep_rank k (suc m) zero l = (omega arith, place_here (k + 0) k (numbers_from (suc k) m) (omega arith))
asleep_rank k (suc m) (suc v) l =
    let (a, b) = asleep_rank (suc k) m v (omega arith) in
    let e : k + suc v ≡ suc k + v = omega arith in
    (a ∙ sym e, place_past (k + suc v) k (numbers_from (suc k) m) (λ z. omega arith) ∙ ap behind (ap (λ (w : ℕ). place w (numbers_from (suc k) m)) e ∙ b))

module _ (B : Book) (units : ℕ) (t : Term) where
  pub start_flat : Correct (arity B) t → flat_start (arity B) units (preorder t) ≡ flat_state (bare t) (first_units units t) (nothing_yet units)
  unfolding flat_start frame_of offset
  start_flat c =
      ap₂ (λ (zs : List ℕ) (us : List FlatUnit).
      record { symbols = preorder t; sizes = zs; marks = map (λ o. false) (preorder t); units = flat_unit 0 (Frame.job 0 0 0 ∷ Frame.bingo ∷ []) ∷ us; rewrites = 0; granted = 0; kept = 0; placed = [] })
      (term_sizes (arity B) t c) (asleep_flat t (numbers_from 1 (units - 1)))
      ∙ ap₂ (λ (x : Term) (ms : List Bool). flat_of x ms (first_units units t) (nothing_yet units)) (sym (plain_bare t)) (marks_none t)

  pub start_paper : start units t ≡ paper_state B (bare t) (first_units units t) (nothing_yet units) 0
  unfolding start list_of
  start_paper =
      ap (λ (z : List UnitState). Machine.with_units (start units t) (unit_state true (Order.visit [] ∷ Order.bingo ∷ []) ∷ z) (numbers_from 1 (units - 1)))
      (asleep_paper B 0 (units - 1))

  pub start_ranked : Ranked (first_units units t) (numbers_from 1 (units - 1))
  unfolding once_if_idle
  start_ranked zero l = sym (place_none 0 (numbers_from 1 (units - 1)) (unfold start in start_queued units t 0))
  start_ranked (suc v) l =
      let (a, b) = asleep_rank 1 (units - 1) v (omega arith) in
      let e : 1 + v ≡ suc v = omega arith in
      a ∙ e ∙ sym b ∙ ap (λ (w : ℕ). place w (numbers_from 1 (units - 1))) e

  pub start_good : Correct (arity B) t → Good B (plain (bare t)) (first_units units t)
  unfolding subterm
  start_good c = subst (λ (x : Term). Good B x (first_units units t)) (sym (plain_bare t)) (record { correct = c; jobs = jobs; exits = λ v w i p j m. absurd (none_yet v w i p j m); stacked = stacked })
    where
      jobs : (v : ℕ) → GoodFrames B t (at (first_units units t) v).frames
      jobs zero = (((tt, refl), refl), (tt, tt))
      jobs (suc v) = subst (GoodFrames B t) (sym (asleep_at (numbers_from 1 (units - 1)) v)) (tt, tt)

      stacked : (v : ℕ) → Stacked B (at (first_units units t) v).frames
      stacked zero = (refl, refl)
      stacked (suc v) = subst (Stacked B) (sym (asleep_at (numbers_from 1 (units - 1)) v)) refl

      only_sleep : {w i j : ℕ} {p : Position} → In (Placed.exit w i p j) (Placed.sleep ∷ []) → ⊥
      only_sleep (inl e) = let z : ◌≡◌ {A = ℕ} 0 1 = cc in omega arith
      only_sleep (inr e) = e

      none_yet : (v w i : ℕ) (p : Position) (j : ℕ) → In (Placed.exit w i p j) (at (first_units units t) v).frames → ⊥
      none_yet zero w i p j (inl e) = let z : ◌≡◌ {A = ℕ} 0 1 = cc in omega arith
      none_yet zero w i p j (inr (inl e)) = let z : ◌≡◌ {A = ℕ} 0 1 = cc in omega arith
      none_yet zero w i p j (inr (inr e)) = e
      none_yet (suc v) w i p j m = only_sleep (subst (In (Placed.exit w i p j)) (asleep_at (numbers_from 1 (units - 1)) v) m)

module _ (B : Book) (L : Limits) (units : ℕ) (t : Term) (c : Correct (arity B) t) where
  pub first_inv : Inv B L (paper_state B (bare t) (first_units units t) (nothing_yet units) 0) (todo (bare t)) first
  first_inv = subst (λ (z : State). Inv B L z (todo (bare t)) first) (start_paper B units t) (start_inv B L units t c)

  pub first_queued : Queued (paper_state B (bare t) (first_units units t) (nothing_yet units) 0)
  first_queued = subst Queued (start_paper B units t) (start_queued units t)

  pub related_start : Related B (start units t) (flat_start (arity B) units (preorder t))
  related_start =
      subst (λ (z : State). Related B z (flat_start (arity B) units (preorder t))) (sym (start_paper B units t))
      (subst (λ (z : FlatState). Related B (paper_state B (bare t) (first_units units t) (nothing_yet units) 0) z) (sym (start_flat B units t c))
      (views_related B (bare t) (first_units units t) (nothing_yet units) 0 (start_good B units t c) (start_ranked B units t)))

  pub flat_first : exceeds L.symbols (size t) ≡ false → FlatInv B L (flat_start (arity B) units (preorder t))
  flat_first sz =
      flat_inv (bare t) (first_units units t) (nothing_yet units) 0 (todo (bare t)) first (start_flat B units t c) (start_good B units t c) first_inv (start_ranked B units t) first_queued
      (subst (λ (x : ℕ). exceeds L.symbols x ≡ false) (sym (sym (plain_size (bare t)) ∙ ap size (plain_bare t))) sz)

  -- THE MACHINE ON LISTS does what the paper's machine does: the same ending, rewrites, entries, grants, FORKs kept, and the term's symbols
  pub same_run : Sound B → Settled B → (schedule : List ℕ) → flat_run B L units schedule (preorder t) ≡ flatten (run B L units schedule t)
  unfolding flat_run run run_from
  same_run sound settled schedule =
      subst (λ (z : FlatState). flat_run_from B L 0 schedule z ≡ flatten (run_from B L 0 schedule (start units t))) (sym (start_flat B units t c))
      (subst (λ (z : State). flat_run_from B L 0 schedule (flat_state (bare t) (first_units units t) (nothing_yet units)) ≡ flatten (run_from B L 0 schedule z)) (sym (start_paper B units t))
      (same_from B L sound settled schedule 0 (bare t) (first_units units t) (nothing_yet units) 0 (todo (bare t)) first (start_good B units t c) first_inv (start_ranked B units t) first_queued))

  pub run_within : Sound B → Settled B → exceeds L.symbols (size t) ≡ false → (schedule : List ℕ) →
      exceeds L.symbols (length (flat_run B L units schedule (preorder t)).symbols) ≡ false
  unfolding flat_run
  run_within sound settled sz schedule = answer_within B L sound settled schedule 0 (flat_start (arity B) units (preorder t)) (flat_first sz)
