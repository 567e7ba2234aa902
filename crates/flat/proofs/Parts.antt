-- A run in parts on lists shows what the unbroken run shows, for any number of parts, its counts kept in 64 bits; of a line, what the paper's unbroken run shows.
-- Assumes nothing.
use mathlib.Core.Bool.{Bool, true, false}
use mathlib.Core.List.{List, [], ◌∷◌, ◌++◌, flatten as concat, append_assoc}
use mathlib.Core.Logic.{inl, inr}
use mathlib.Core.Option.{Option, none, some, none-ne-some, some-injective}
use mathlib.Core.Path.{◌≡◌, refl, sym, ◌∙◌, ap, ap₂, subst}
use Prim.Native.Nat.{ℕ, zero, suc, ◌+◌, ◌-◌, ◌≤◌}
use native.Mathlib.Omega.{arith}
use lib.Dec.{eqb}
use lib.ListN.{length, drop, get_or}
use Rattle.paper.specs.Tree.{preorder, Correct}
use Rattle.paper.specs.Strategy.{Step}
use Rattle.paper.specs.Book.{Symbol, Term, Book, arity, steps}
use Rattle.paper.specs.Marks.{Marked, plain, bare}
use Rattle.paper.specs.Machine
use Rattle.paper.specs.Machine.{Ending, State, Limits, exceeds}
use Rattle.paper.specs.Parts as Paper
use Rattle.paper.specs.Idle.{Queued}
use Rattle.paper.specs.Run.{run}
use Rattle.paper.specs.Sound.{Sound}
use Rattle.paper.proofs.Demand3.{first}
use Rattle.paper.proofs.Ghost.{Ghost, todo}
use Rattle.paper.proofs.Invariant.{Inv}
use Rattle.paper.proofs.Tests.{ltb_cases}
use Rattle.paper.proofs.View.{Block}
use Rattle.flat.specs.Symbols.{Binding, Hit, rewrite, argument, fill}
use Rattle.flat.specs.Machine.{Frame, FlatUnit, FlatState, FlatOutcome, going, ended, first_idle, unit, do_visit, do_fork, do_join, do_rewrite, do_whole, do_step, carry_out, turn, flat_entry, flat_start}
use Rattle.flat.specs.Run.{FlatAnswer, flat_answer, after, flat_run_from, flat_run, flatten}
use Rattle.flat.specs.Parts.{unless_over, flat_parked, highest, kept_count, with_forks, kept_state, kept_answer, Parked, again, part, from, parts, resume}
use Rattle.flat.specs.Relation.{PlacedUnit, Ranked, Related}
use Rattle.flat.proofs.Course.{both, next, still_queued, first_units, nothing_yet, start_flat, start_paper, start_ranked, start_good, first_inv, first_queued, same_run}
use Rattle.flat.proofs.Relation.{Tally, paper_state, flat_state, Good, Both, b_going, b_ended, views_related}
use Rattle.flat.proofs.Steps.{Settled}

-- A RUN PARKED AND RESUMED

module _ (B : Book) (L : Limits) where
  pub parked_run : (us vs : List ℕ) (n : ℕ) (s s' : FlatState) → flat_parked B L us s ≡ some s' →
      flat_run_from B L (n + length us) vs s' ≡ flat_run_from B L n (us ++ vs) s
  unfolding flat_parked flat_run_from
  parked_run [] vs n s s' e =
      let z : n + 0 ≡ n = omega arith in
      ap (λ (m : ℕ). flat_run_from B L m vs s') z ∙ ap (flat_run_from B L n vs) (sym (some-injective _ _ e))
  parked_run (u ∷ us) vs n s s' e = go (flat_entry B L u s) e (parked_run us vs (suc n))
    where
      go : (x : FlatOutcome) → unless_over (flat_parked B L us) x ≡ some s' →
          ((s₁ s₂ : FlatState) → flat_parked B L us s₁ ≡ some s₂ → flat_run_from B L (suc n + length us) vs s₂ ≡ flat_run_from B L (suc n) (us ++ vs) s₁) →
          flat_run_from B L (n + suc (length us)) vs s' ≡ after n (flat_run_from B L (suc n) (us ++ vs)) x
      go (going s₁) e h =
          let z : n + suc (length us) ≡ suc n + length us = omega arith in
          unfold unless_over after in ap (λ (m : ℕ). flat_run_from B L m vs s') z ∙ h s₁ s' e
      go (ended en s₁) e h = unfold unless_over in absurd (none-ne-some _ e)

-- COUNTS OF 64 BITS

pub kept_low : (n : ℕ) → n ≤ highest → kept_count n ≡ n
unfolding kept_count
kept_low n l = elim (ltb_cases highest n) [ inl p ↦ absurd (let a = p.1 in omega (arith, a, l)) | inr p ↦ rw (p.0, kept_count) ]

pub kept_high : (n : ℕ) → highest ≤ n → kept_count n ≡ highest
unfolding kept_count
kept_high n l = elim (ltb_cases highest n) [ inl p ↦ rw (p.0, kept_count) | inr p ↦ rw (p.0, kept_count) (let a = p.1 in omega (arith, a, l)) ]

pub kept_most : (n : ℕ) → kept_count n ≤ highest
kept_most n =
    elim (ltb_cases highest n) [
      | inl p ↦ (let a = p.1 in omega (arith, kept_high n (omega (arith, a))))
      | inr p ↦ (let a = p.1 in omega (arith, kept_low n a, a))
    ]

-- one more on both: what is shown is then the same too, so that a count which stays at the highest value shows what counting on shows
pub kept_next : (m n : ℕ) → kept_count m ≡ kept_count n → kept_count (suc m) ≡ kept_count (suc n)
kept_next m n e =
    elim (ltb_cases m highest) [
      | inl p ↦
          elim (ltb_cases n highest) [
            | inl q ↦
                (let a = p.1 in
                let b = q.1 in
                let z : m ≡ n = omega (arith, kept_low m (omega (arith, a)), kept_low n (omega (arith, b)), e) in
                ap (λ (k : ℕ). kept_count (suc k)) z)
            | inr q ↦ absurd (let a = p.1 in let b = q.1 in omega (arith, kept_low m (omega (arith, a)), kept_high n b, e, a))
          ]
      | inr p ↦
          elim (ltb_cases n highest) [
            | inl q ↦ absurd (let a = p.1 in let b = q.1 in omega (arith, kept_high m a, kept_low n (omega (arith, b)), e, b))
            | inr q ↦ (let a = p.1 in let b = q.1 in kept_high (suc m) (omega (arith, a)) ∙ sym (kept_high (suc n) (omega (arith, b))))
          ]
    ]

pub kept_twice : (n : ℕ) → kept_count (kept_count n) ≡ kept_count n
kept_twice n = kept_low (kept_count n) (kept_most n)

-- STATES THAT SHOW THE SAME: alike but for counts

pub record Alike (s s' : FlatState) : Type 0 where
  pub symbols : s.symbols ≡ s'.symbols
  pub sizes : s.sizes ≡ s'.sizes
  pub marks : s.marks ≡ s'.marks
  pub units : s.units ≡ s'.units
  pub rewrites : s.rewrites ≡ s'.rewrites
  pub granted : kept_count s.granted ≡ kept_count s'.granted
  pub kept : kept_count s.kept ≡ kept_count s'.kept
  pub placed : s.placed ≡ s'.placed

abbrev AlikeOutcome : FlatOutcome → FlatOutcome → Type 0
AlikeOutcome (going s) (going s') = Alike s s'
AlikeOutcome (going s) (ended e s') = ⊥
AlikeOutcome (ended e s) (going s') = ⊥
AlikeOutcome (ended e s) (ended e' s') = (e ≡ e') × Alike s s'

module _ (B : Book) (L : Limits) (u : ℕ) (s : FlatState) (g k : ℕ) (eg : kept_count s.granted ≡ kept_count g) (ek : kept_count s.kept ≡ kept_count k) where
  abbrev s₂ : FlatState
  s₂ = with_forks s g k

  -- what changes no count of FORKs
  same : (x : FlatState) → x.granted ≡ s.granted → x.kept ≡ s.kept → Alike x (with_forks x g k)
  same x a b = record {
    symbols = refl;
    sizes = refl;
    marks = refl;
    units = refl;
    rewrites = refl;
    granted = ap kept_count a ∙ eg;
    kept = ap kept_count b ∙ ek;
    placed = refl;
  }

  alike_visit : (a : ℕ) (fs : List Frame) → AlikeOutcome (do_visit B L u s a fs) (do_visit B L u s₂ a fs)
  unfolding do_visit
  alike_visit a fs = same _ refl refl

  alike_fork : (a b i c : ℕ) (ss : List Step) (fs : List Frame) (z : Option ℕ) → AlikeOutcome (do_fork B L u s a b i c ss fs z) (do_fork B L u s₂ a b i c ss fs z)
  unfolding do_fork
  alike_fork a b i c ss fs none =
      record { symbols = refl; sizes = refl; marks = refl; units = refl; rewrites = refl; granted = eg; kept = kept_next s.kept k ek; placed = refl }
  alike_fork a b i c ss fs (some v) =
      record { symbols = refl; sizes = refl; marks = refl; units = refl; rewrites = refl; granted = kept_next s.granted g eg; kept = ek; placed = refl }

  alike_join : (a i c : ℕ) (ss : List Step) (fs : List Frame) → AlikeOutcome (do_join B L u s a i c ss fs) (do_join B L u s₂ a i c ss fs)
  unfolding do_join
  alike_join a i zero ss fs = same _ refl refl
  alike_join a i (suc c) ss fs = same _ refl refl

  alike_rewrite : (a e : ℕ) (right : List Symbol) (b : Binding) (fs : List Frame) (x y : Bool) →
      AlikeOutcome (do_rewrite B L u s a e right b fs x y) (do_rewrite B L u s₂ a e right b fs x y)
  unfolding do_rewrite
  alike_rewrite a e right b fs true y = (refl, same s refl refl)
  alike_rewrite a e right b fs false true = (refl, same s refl refl)
  alike_rewrite a e right b fs false false = same _ refl refl

  alike_whole : (a i c : ℕ) (ss : List Step) (fs : List Frame) (h : Hit) → AlikeOutcome (do_whole B L u s a i c ss fs h) (do_whole B L u s₂ a i c ss fs h)
  unfolding do_whole
  alike_whole a i c ss fs Hit.miss = same _ refl refl
  alike_whole a i c ss fs (Hit.hit right b e) =
      alike_rewrite a e right b fs (eqb s.rewrites L.budget) (exceeds L.symbols (length (fill right b s.symbols) + (length s.symbols - (e - a))))

  alike_step : (a i c : ℕ) (ss : List Step) (fs : List Frame) → AlikeOutcome (do_step B L u s a i c ss fs) (do_step B L u s₂ a i c ss fs)
  unfolding do_step
  alike_step a i c [] fs = same _ refl refl
  alike_step a i c (Step.visit x ∷ ss) fs = alike_visit _ _
  alike_step a i c (Step.fork x ∷ ss) fs = alike_fork a (argument (arity B) s.symbols a x) i c ss fs (first_idle s.units)
  alike_step a i c (Step.join d ∷ ss) fs = alike_join a i c ss fs
  alike_step a i c (Step.whole ∷ ss) fs = alike_whole a i c ss fs (rewrite (arity B) B.rules a s.symbols)

  alike_order : (fs : List Frame) (f : Frame) → AlikeOutcome (carry_out B L u s fs f) (carry_out B L u s₂ fs f)
  unfolding carry_out
  alike_order fs (Frame.job a zero c) = alike_visit a fs
  alike_order fs (Frame.job a (suc i) c) = alike_step a (suc i) c (drop i (steps B (get_or s.symbols a 0))) fs
  alike_order fs (Frame.exit v i) = same _ refl refl
  alike_order fs Frame.sleep = same _ refl refl
  alike_order fs Frame.bingo = (refl, same s refl refl)

  alike_turn : (r : ℕ) (fs : List Frame) → AlikeOutcome (turn B L u s r fs) (turn B L u s₂ r fs)
  unfolding turn
  alike_turn (suc r) fs = same s refl refl
  alike_turn zero [] = same s refl refl
  alike_turn zero (f ∷ fs) = alike_order fs f

  alike_entry : AlikeOutcome (flat_entry B L u s) (flat_entry B L u s₂)
  unfolding flat_entry
  alike_entry = alike_turn (unit s.units u).rank (unit s.units u).stack

module _ (B : Book) (L : Limits) where
  alike_state : (s s' : FlatState) → Alike s s' → s' ≡ with_forks s s'.granted s'.kept
  alike_state s s' a =
      let r : List ℕ → List ℕ → List Bool → List FlatUnit → ℕ → List ℕ → FlatState =
      (λ xs zs ms us n vs. record { symbols = xs; sizes = zs; marks = ms; units = us; rewrites = n; granted = s'.granted; kept = s'.kept; placed = vs }) in
      ap₂ (λ (xs zs : List ℕ). r xs zs s'.marks s'.units s'.rewrites s'.placed) (sym a.symbols) (sym a.sizes)
      ∙ ap₂ (λ (ms : List Bool) (us : List FlatUnit). r s.symbols s.sizes ms us s'.rewrites s'.placed) (sym a.marks) (sym a.units)
      ∙ ap₂ (λ (n : ℕ) (vs : List ℕ). r s.symbols s.sizes s.marks s.units n vs) (sym a.rewrites) (sym a.placed)

  alike_next : (u : ℕ) (s s' : FlatState) → Alike s s' → AlikeOutcome (flat_entry B L u s) (flat_entry B L u s')
  alike_next u s s' a =
      subst (λ (z : FlatState). AlikeOutcome (flat_entry B L u s) (flat_entry B L u z)) (sym (alike_state s s' a)) (alike_entry B L u s s'.granted s'.kept a.granted a.kept)

  alike_answer : (e : Ending) (n n' : ℕ) (s s' : FlatState) → kept_count n ≡ kept_count n' → Alike s s' → kept_answer (flat_answer e n s) ≡ kept_answer (flat_answer e n' s')
  alike_answer e n n' s s' en a =
      ap₂ (λ (x y : ℕ). record { ending = e; rewrites = x; entries = y; granted = kept_count s.granted; kept = kept_count s.kept; symbols = s.symbols }) a.rewrites en
      ∙ ap₂ (λ (x y : ℕ). record { ending = e; rewrites = s'.rewrites; entries = kept_count n'; granted = x; kept = y; symbols = s.symbols }) a.granted a.kept
      ∙ ap (λ (xs : List ℕ). record { ending = e; rewrites = s'.rewrites; entries = kept_count n'; granted = kept_count s'.granted; kept = kept_count s'.kept; symbols = xs })
      a.symbols

  after_alike : (n n' : ℕ) (on on' : FlatState → FlatAnswer) (o o' : FlatOutcome) → kept_count n ≡ kept_count n' → AlikeOutcome o o' →
      ((s s' : FlatState) → Alike s s' → kept_answer (on s) ≡ kept_answer (on' s')) → kept_answer (after n on o) ≡ kept_answer (after n' on' o')
  unfolding after
  after_alike n n' on on' (going s) (going s') en a h = h s s' a
  after_alike n n' on on' (going s) (ended e s') en a h = absurd a
  after_alike n n' on on' (ended e s) (going s') en a h = absurd a
  after_alike n n' on on' (ended e s) (ended e' s') en a h =
      alike_answer e (suc n) (suc n') s s' (kept_next n n' en) a.1 ∙ ap (λ (z : Ending). kept_answer (flat_answer z (suc n') s')) a.0

  -- such states run alike, and show the same counts
  pub alike_run : (us : List ℕ) (n n' : ℕ) (s s' : FlatState) → kept_count n ≡ kept_count n' → Alike s s' →
      kept_answer (flat_run_from B L n us s) ≡ kept_answer (flat_run_from B L n' us s')
  unfolding flat_run_from
  alike_run [] n n' s s' en a = alike_answer Ending.cut n n' s s' en a
  alike_run (u ∷ us) n n' s s' en a =
      after_alike n n' (flat_run_from B L (suc n) us) (flat_run_from B L (suc n') us) (flat_entry B L u s) (flat_entry B L u s') en (alike_next u s s' a)
      (λ x x' b. alike_run us (suc n) (suc n') x x' (kept_next n n' en) b)

  kept_alike : (s : FlatState) → Alike (kept_state s) s
  kept_alike s = record {
    symbols = refl;
    sizes = refl;
    marks = refl;
    units = refl;
    rewrites = refl;
    granted = kept_twice s.granted;
    kept = kept_twice s.kept;
    placed = refl;
  }

  -- A RUN IN PARTS, THE COUNTS KEPT IN 64 BITS AT EACH PARK, shows what the unbroken one shows
  pub part_run : (us vs : List ℕ) (P Q : Parked) → part B L us P ≡ some Q → resume B L vs Q ≡ resume B L (us ++ vs) P
  unfolding part resume
  part_run us vs P Q e = go (flat_parked B L us P.state) refl e
    where
      go : (x : Option FlatState) → flat_parked B L us P.state ≡ x → again (P.entries + length us) x ≡ some Q →
          kept_answer (flat_run_from B L Q.entries vs Q.state) ≡ kept_answer (flat_run_from B L P.entries (us ++ vs) P.state)
      go none q e = unfold again in absurd (none-ne-some _ e)
      go (some s) q e =
          let eq : record { entries = kept_count (P.entries + length us); state = kept_state s } ≡ Q = unfold again in some-injective _ _ e in
          subst (λ (z : Parked). kept_answer (flat_run_from B L z.entries vs z.state) ≡ kept_answer (flat_run_from B L P.entries (us ++ vs) P.state)) eq
          (alike_run vs (kept_count (P.entries + length us)) (P.entries + length us) (kept_state s) s (kept_twice (P.entries + length us)) (kept_alike s)
          ∙ ap kept_answer (parked_run B L us vs P.entries P.state s q))

  pub parts_run : (uss : List (List ℕ)) (vs : List ℕ) (P Q : Parked) → parts B L uss P ≡ some Q → resume B L vs Q ≡ resume B L (concat uss ++ vs) P
  unfolding parts concat
  parts_run [] vs P Q e = ap (resume B L vs) (sym (some-injective _ _ e))
  parts_run (us ∷ uss) vs P Q e = go (part B L us P) refl e (parts_run uss vs)
    where
      go : (x : Option Parked) → part B L us P ≡ x → from (parts B L uss) x ≡ some Q →
          ((P₁ Q₁ : Parked) → parts B L uss P₁ ≡ some Q₁ → resume B L vs Q₁ ≡ resume B L (concat uss ++ vs) P₁) → resume B L vs Q ≡ resume B L ((us ++ concat uss) ++ vs) P
      go none q e h = unfold from in absurd (none-ne-some _ e)
      go (some R) q e h =
          h R Q (unfold from in e) ∙ part_run us (concat uss ++ vs) P R q
          ∙ ap (λ (z : List ℕ). resume B L z P) (sym (append_assoc us (concat uss) vs))

-- OF A LINE: what the paper's unbroken run answers
pub line_parts : (B : Book) → Sound B → Settled B → (L : Limits) (units : ℕ) (t : Term) → Correct (arity B) t → (uss : List (List ℕ)) (vs : List ℕ) (Q : Parked) →
    parts B L uss (record { entries = 0; state = flat_start (arity B) units (preorder t) }) ≡ some Q →
    resume B L vs Q ≡ kept_answer (flatten (run B L units (concat uss ++ vs) t))
unfolding resume flat_run
line_parts B sound settled L units t c uss vs Q e =
    parts_run B L uss vs (record { entries = 0; state = flat_start (arity B) units (preorder t) }) Q e
    ∙ ap kept_answer (same_run B L units t c sound settled (concat uss ++ vs))

-- WHAT IS PARKED is the paper's: both runs are parked at states that are related, or neither is
abbrev pub ParkedBoth : Book → Option FlatState → Option State → Type 0
ParkedBoth B none none = Unit {0}
ParkedBoth B none (some s) = ⊥
ParkedBoth B (some f) none = ⊥
ParkedBoth B (some f) (some s) = Related B s f

module _ (B : Book) (L : Limits) (sound : Sound B) (settled : Settled B) where
  parked_both : (us : List ℕ) (w : Marked) (U : List PlacedUnit) (n : Tally) (j : ℕ) (D : Ghost) (bs : List Block) → Good B (plain w) U → Inv B L (paper_state B w U n j) D bs →
      Ranked U n.queue → Queued (paper_state B w U n j) → ParkedBoth B (flat_parked B L us (flat_state w U n)) (Paper.parked B L us (paper_state B w U n j))
  unfolding flat_parked Paper.parked Machine.entry
  parked_both [] w U n j D bs good inv ranked queued = views_related B w U n j good ranked
  parked_both (u ∷ us) w U n j D bs good inv ranked queued =
      go (flat_entry B L u (flat_state w U n)) (Machine.entry B L u (paper_state B w U n j)) (both B L sound settled w U n j D bs good inv ranked queued u) refl
      (λ ev w' U' n' j' g' d' e.
      let (D', bs', inv') = next B L sound settled w U n j D bs good inv ranked queued u e in
      parked_both us w' U' n' j' D' bs' g' inv' d' (still_queued B L sound settled w U n j D bs good inv ranked queued u e))
    where
      go : (fo : FlatOutcome) (po : Machine.Outcome) → Both B fo po → Machine.entry B L u (paper_state B w U n j) ≡ po →
          ((ev : Machine.Event) (w' : Marked) (U' : List PlacedUnit) (n' : Tally) (j' : ℕ) → Good B (plain w') U' → Ranked U' n'.queue →
          Machine.entry B L u (paper_state B w U n j) ≡ Machine.going ev (paper_state B w' U' n' j') →
          ParkedBoth B (flat_parked B L us (flat_state w' U' n')) (Paper.parked B L us (paper_state B w' U' n' j'))) →
          ParkedBoth B (unless_over (flat_parked B L us) fo) (Paper.unless_ended (Paper.parked B L us) po)
      go fo po (b_going ev w' U' n' j' ef ep g d) q h = unfold unless_over Paper.unless_ended in rw (ef, ep) (h ev w' U' n' j' g d (q ∙ ep))
      go fo po (b_ended en w' U' n' j' ef ep g d) q h = unfold unless_over Paper.unless_ended in rw (ef, ep) tt

-- of a line
pub line_parked : (B : Book) → Sound B → Settled B → (L : Limits) (units : ℕ) (t : Term) → Correct (arity B) t → (us : List ℕ) →
    ParkedBoth B (flat_parked B L us (flat_start (arity B) units (preorder t))) (Paper.parked B L us (Machine.start units t))
line_parked B sound settled L units t c us =
    subst (λ (f : FlatState). ParkedBoth B (flat_parked B L us f) (Paper.parked B L us (Machine.start units t))) (sym (start_flat B units t c))
    (subst (λ (s : State). ParkedBoth B (flat_parked B L us (flat_state (bare t) (first_units units t) (nothing_yet units))) (Paper.parked B L us s)) (sym (start_paper B units t))
    (parked_both B L sound settled us (bare t) (first_units units t) (nothing_yet units) 0 (todo (bare t)) first (start_good B units t c) (first_inv B L units t c)
    (start_ranked B units t) (first_queued B L units t c)))
