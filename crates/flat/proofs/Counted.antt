-- A part of a run may count its entries and FORKs from zero: with what the parts before it counted added, it shows what counting on shows. So does what is
-- parked behind it. Assumes nothing.
use mathlib.Core.Bool.{Bool, true, false}
use mathlib.Core.List.{List, [], ◌∷◌, append-nil}
use mathlib.Core.Logic.{inl, inr}
use mathlib.Core.Option.{Option, none, some}
use mathlib.Core.Path.{◌≡◌, refl, sym, ◌∙◌, ap, ap₂}
use Prim.Native.Nat.{ℕ, zero, suc, ◌+◌, ◌-◌}
use native.Mathlib.Omega.{arith}
use lib.Dec.{eqb}
use lib.ListN.{length, drop, get_or}
use Rattle.paper.specs.Strategy.{Step}
use Rattle.paper.specs.Book.{Symbol, Book, arity, steps}
use Rattle.paper.specs.Machine.{Ending, Limits, exceeds}
use Rattle.paper.proofs.Tests.{ltb_cases}
use Rattle.flat.specs.Symbols.{Binding, Hit, rewrite, argument, fill}
use Rattle.flat.specs.Machine.{Frame, FlatState, FlatOutcome, going, ended, first_idle, unit, do_visit, do_fork, do_join, do_rewrite, do_whole, do_step, carry_out, turn, flat_entry}
use Rattle.flat.specs.Run.{flat_answer, after, flat_run_from}
use Rattle.flat.specs.Parts.{unless_over, flat_parked, highest, kept_count, with_forks, kept_state, kept_answer, from_zero, add_forks, add_counts, Parked, again, part, resume}
use Rattle.flat.proofs.Parts.{parked_run, kept_low, kept_high}

-- ONE ENTRY doesn't look at the FORKs counted

abbrev add_forks_to : ℕ → ℕ → FlatOutcome → FlatOutcome
add_forks_to g k (going s) = going (add_forks g k s)
add_forks_to g k (ended e s) = ended e (add_forks g k s)

module _ (B : Book) (L : Limits) (g k : ℕ) (u : ℕ) (s : FlatState) where
  abbrev s₂ : FlatState
  s₂ = add_forks g k s

  added_visit : (a : ℕ) (fs : List Frame) → do_visit B L u s₂ a fs ≡ add_forks_to g k (do_visit B L u s a fs)
  unfolding do_visit
  added_visit a fs = refl

  added_fork : (a b i c : ℕ) (ss : List Step) (fs : List Frame) (z : Option ℕ) →
      do_fork B L u s₂ a b i c ss fs z ≡ add_forks_to g k (do_fork B L u s a b i c ss fs z)
  unfolding do_fork
  added_fork a b i c ss fs none = let e : suc (k + s.kept) ≡ k + suc s.kept = omega arith in rw e refl
  added_fork a b i c ss fs (some v) = let e : suc (g + s.granted) ≡ g + suc s.granted = omega arith in rw e refl

  added_join : (a i c : ℕ) (ss : List Step) (fs : List Frame) → do_join B L u s₂ a i c ss fs ≡ add_forks_to g k (do_join B L u s a i c ss fs)
  unfolding do_join
  added_join a i zero ss fs = refl
  added_join a i (suc c) ss fs = refl

  added_rewrite : (a e : ℕ) (right : List Symbol) (b : Binding) (fs : List Frame) (x y : Bool) →
      do_rewrite B L u s₂ a e right b fs x y ≡ add_forks_to g k (do_rewrite B L u s a e right b fs x y)
  unfolding do_rewrite
  added_rewrite a e right b fs true y = refl
  added_rewrite a e right b fs false true = refl
  added_rewrite a e right b fs false false = refl

  added_whole : (a i c : ℕ) (ss : List Step) (fs : List Frame) (h : Hit) → do_whole B L u s₂ a i c ss fs h ≡ add_forks_to g k (do_whole B L u s a i c ss fs h)
  unfolding do_whole
  added_whole a i c ss fs Hit.miss = refl
  added_whole a i c ss fs (Hit.hit right b e) =
      added_rewrite a e right b fs (eqb s.rewrites L.budget) (exceeds L.symbols (length (fill right b s.symbols) + (length s.symbols - (e - a))))

  added_step : (a i c : ℕ) (ss : List Step) (fs : List Frame) → do_step B L u s₂ a i c ss fs ≡ add_forks_to g k (do_step B L u s a i c ss fs)
  unfolding do_step
  added_step a i c [] fs = refl
  added_step a i c (Step.visit x ∷ ss) fs = added_visit _ _
  added_step a i c (Step.fork x ∷ ss) fs = added_fork a (argument (arity B) s.symbols a x) i c ss fs (first_idle s.units)
  added_step a i c (Step.join d ∷ ss) fs = added_join a i c ss fs
  added_step a i c (Step.whole ∷ ss) fs = added_whole a i c ss fs (rewrite (arity B) B.rules a s.symbols)

  added_order : (fs : List Frame) (f : Frame) → carry_out B L u s₂ fs f ≡ add_forks_to g k (carry_out B L u s fs f)
  unfolding carry_out
  added_order fs (Frame.job a zero c) = added_visit a fs
  added_order fs (Frame.job a (suc i) c) = added_step a (suc i) c (drop i (steps B (get_or s.symbols a 0))) fs
  added_order fs (Frame.exit v i) = refl
  added_order fs Frame.sleep = refl
  added_order fs Frame.bingo = refl

  added_turn : (r : ℕ) (fs : List Frame) → turn B L u s₂ r fs ≡ add_forks_to g k (turn B L u s r fs)
  unfolding turn
  added_turn (suc r) fs = refl
  added_turn zero [] = refl
  added_turn zero (f ∷ fs) = added_order fs f

  added_entry : flat_entry B L u s₂ ≡ add_forks_to g k (flat_entry B L u s)
  unfolding flat_entry
  added_entry = added_turn (unit s.units u).rank (unit s.units u).stack

-- A RUN

abbrev add_forks_if : ℕ → ℕ → Option FlatState → Option FlatState
add_forks_if g k none = none
add_forks_if g k (some s) = some (add_forks g k s)

module _ (B : Book) (L : Limits) where
  module _ (g k : ℕ) where
    added_run : (n : ℕ) (us : List ℕ) (m : ℕ) (s : FlatState) → flat_run_from B L (n + m) us (add_forks g k s) ≡ add_counts n g k (flat_run_from B L m us s)
    unfolding flat_run_from after
    added_run n [] m s = refl
    added_run n (u ∷ us) m s = ap (after (n + m) (flat_run_from B L (suc (n + m)) us)) (added_entry B L g k u s) ∙ go (flat_entry B L u s) (added_run n us (suc m))
      where
        go : (x : FlatOutcome) → ((s₁ : FlatState) → flat_run_from B L (n + suc m) us (add_forks g k s₁) ≡ add_counts n g k (flat_run_from B L (suc m) us s₁)) →
            after (n + m) (flat_run_from B L (suc (n + m)) us) (add_forks_to g k x) ≡ add_counts n g k (after m (flat_run_from B L (suc m) us) x)
        go (going s₁) h =
            let e : suc (n + m) ≡ n + suc m = omega arith in ap (λ (j : ℕ). flat_run_from B L j us (add_forks g k s₁)) e ∙ h s₁
        go (ended en s₁) h = let e : suc (n + m) ≡ n + suc m = omega arith in ap (λ (j : ℕ). flat_answer en j (add_forks g k s₁)) e

    added_parked : (us : List ℕ) (s : FlatState) → flat_parked B L us (add_forks g k s) ≡ add_forks_if g k (flat_parked B L us s)
    unfolding flat_parked unless_over
    added_parked [] s = refl
    added_parked (u ∷ us) s = ap (unless_over (flat_parked B L us)) (added_entry B L g k u s) ∙ go (flat_entry B L u s) (added_parked us)
      where
        go : (x : FlatOutcome) → ((s₁ : FlatState) → flat_parked B L us (add_forks g k s₁) ≡ add_forks_if g k (flat_parked B L us s₁)) →
            unless_over (flat_parked B L us) (add_forks_to g k x) ≡ add_forks_if g k (unless_over (flat_parked B L us) x)
        go (going s₁) h = h s₁
        go (ended en s₁) h = refl

  -- a state is what is counted in it, added to the state from zero
  added_back : (s : FlatState) → s ≡ add_forks s.granted s.kept (from_zero s)
  added_back s =
      let a : s.granted ≡ s.granted + 0 = omega arith in
      let b : s.kept ≡ s.kept + 0 = omega arith in
      ap₂ (with_forks s) a b

  -- the run, and where it is parked, by those from zero
  pub run_counted : (n : ℕ) (us : List ℕ) (s : FlatState) →
      flat_run_from B L n us s ≡ add_counts n s.granted s.kept (flat_run_from B L 0 us (from_zero s))
  run_counted n us s =
      let e : n ≡ n + 0 = omega arith in
      ap₂ (λ (m : ℕ) (z : FlatState). flat_run_from B L m us z) e (added_back s) ∙ added_run s.granted s.kept n us 0 (from_zero s)

  by_zero : (us : List ℕ) (s : FlatState) → flat_parked B L us s ≡ add_forks_if s.granted s.kept (flat_parked B L us (from_zero s))
  by_zero us s = ap (flat_parked B L us) (added_back s) ∙ added_parked s.granted s.kept us (from_zero s)

  pub parked_counted : (us : List ℕ) (s z : FlatState) → flat_parked B L us (from_zero s) ≡ some z →
      flat_parked B L us s ≡ some (add_forks s.granted s.kept z)
  parked_counted us s z e = by_zero us s ∙ ap (add_forks_if s.granted s.kept) e

  pub ended_counted : (us : List ℕ) (s : FlatState) → flat_parked B L us (from_zero s) ≡ none → flat_parked B L us s ≡ none
  ended_counted us s e = by_zero us s ∙ ap (add_forks_if s.granted s.kept) e

  -- A PART of a run: its answer, and where the run is parked again
  module _ (us : List ℕ) (P : Parked) where
    abbrev s₀ : FlatState
    s₀ = P.state

    pub resume_counted : resume B L us P ≡ kept_answer (add_counts P.entries s₀.granted s₀.kept (flat_run_from B L 0 us (from_zero s₀)))
    unfolding resume
    resume_counted = ap kept_answer (run_counted P.entries us s₀)

    pub part_counted : (z : FlatState) → flat_parked B L us (from_zero s₀) ≡ some z →
        part B L us P ≡ some (record { entries = kept_count (P.entries + length us); state = kept_state (add_forks s₀.granted s₀.kept z) })
    unfolding part again
    part_counted z e = ap (again (P.entries + length us)) (parked_counted us s₀ z e)

    pub part_over : flat_parked B L us (from_zero s₀) ≡ none → part B L us P ≡ none
    unfolding part again
    part_over e = ap (again (P.entries + length us)) (ended_counted us s₀ e)

  -- the answer of a run that is parked: cut, every entry used
  pub parked_answer : (n : ℕ) (us : List ℕ) (s z : FlatState) → flat_parked B L us s ≡ some z →
      flat_run_from B L n us s ≡ flat_answer Ending.cut (n + length us) z
  unfolding flat_run_from
  parked_answer n us s z e = ap (λ (vs : List ℕ). flat_run_from B L n vs s) (sym (append-nil us)) ∙ sym (parked_run B L us [] n s z e)

-- a count that was kept in 64 bits, added to
pub kept_added : (a b : ℕ) → kept_count (kept_count a + b) ≡ kept_count (a + b)
kept_added a b = elim (ltb_cases highest a) [
  | inl p ↦ (let h = p.1 in
      let e = kept_high a (omega (arith, h)) in kept_high (kept_count a + b) (omega (arith, e)) ∙ sym (kept_high (a + b) (omega (arith, h))))
  | inr p ↦ ap (λ (x : ℕ). kept_count (x + b)) (kept_low a p.1)
]
