-- A run is parked exactly if it ends cut, and its units stay as many. Assumes nothing.
use mathlib.Core.Bool.{Bool, true, false}
use mathlib.Core.List.{List, [], ◌∷◌, append-nil}
use mathlib.Core.Option.{Option, none, some, none-ne-some, some-injective}
use mathlib.Core.Path.{◌≡◌, refl, sym, ◌∙◌, ap, subst}
use Prim.Native.Nat.{ℕ, zero, suc, ◌+◌, ◌-◌, ◌≤◌}
use native.Mathlib.Omega.{arith}
use lib.Dec.{eqb}
use lib.ListN.{length, get_or, drop, length-set}
use lib.ListN.{set as put}
use Rattle.paper.specs.Strategy.{Step}
use Rattle.paper.specs.Book.{Symbol, Book, arity, steps}
use Rattle.paper.specs.Machine.{Ending, Limits, exceeds, numbers_from}
use Rattle.flat.specs.Symbols.{Binding, Hit, rewrite, argument, fill}
use Rattle.flat.specs.Machine.{Frame, flat_unit, FlatUnit, FlatState, FlatOutcome, going, ended, unit, proceed, left, lowered, woken, first_idle, arrive, asleep, shift_unit, do_visit, do_fork, do_join, do_rewrite, do_whole, do_step, carry_out, turn, flat_entry, start_units, flat_start}
use Rattle.flat.specs.Machine as Flat
use Rattle.flat.specs.Run.{FlatAnswer, after, flat_run_from}
use Rattle.flat.specs.Parts.{unless_over, flat_parked, kept_count, kept_state, Parked, again, part, resume}
use Rattle.flat.proofs.Parts.{part_run}
use Rattle.flat.proofs.Stacks.{map_length}

-- an entry leaves the units as many as they are, or ends the run otherwise than cut
abbrev Fine : ℕ → FlatOutcome → Type 0
Fine n (going s) = length s.units ≡ n
Fine n (ended Ending.finished s) = Unit {0}
Fine n (ended Ending.spent s) = Unit {0}
Fine n (ended Ending.full s) = Unit {0}
Fine n (ended Ending.cut s) = ⊥

module _ (B : Book) (L : Limits) (u : ℕ) (s : FlatState) where
  abbrev many : ℕ
  many = length s.units

  put_many : (x : FlatUnit) → length (put s.units u x) ≡ many
  put_many x = length-set s.units u x

  leave_many : (r v : ℕ) (x y : FlatUnit) → length (Flat.leave r (put (put s.units u x) v y)) ≡ many
  leave_many r v x y =
      map_length (λ (z : FlatUnit). flat_unit (left r z.rank) z.stack) (put (put s.units u x) v y) ∙ length-set (put s.units u x) v y ∙ put_many x

  fine_visit : (a : ℕ) (fs : List Frame) → Fine many (do_visit B L u s a fs)
  unfolding do_visit
  fine_visit a fs = put_many _

  fine_fork : (a b i c : ℕ) (ss : List Step) (fs : List Frame) (z : Option ℕ) → Fine many (do_fork B L u s a b i c ss fs z)
  unfolding do_fork
  fine_fork a b i c ss fs none = put_many _
  fine_fork a b i c ss fs (some v) =
      leave_many 1 v (flat_unit 0 (proceed a (suc i) c ss fs)) (flat_unit (unit s.units v).rank (Frame.job b 0 0 ∷ Frame.exit u (length fs) ∷ (unit s.units v).stack))

  fine_join : (a i c : ℕ) (ss : List Step) (fs : List Frame) → Fine many (do_join B L u s a i c ss fs)
  unfolding do_join
  fine_join a i zero ss fs = put_many _
  fine_join a i (suc c) ss fs = put_many _

  fine_rewrite : (a e : ℕ) (right : List Symbol) (b : Binding) (fs : List Frame) (x y : Bool) → Fine many (do_rewrite B L u s a e right b fs x y)
  unfolding do_rewrite
  fine_rewrite a e right b fs true y = tt
  fine_rewrite a e right b fs false true = tt
  fine_rewrite a e right b fs false false =
      map_length (shift_unit a e (length (fill right b s.symbols))) (put s.units u (flat_unit 0 (Frame.job a 0 0 ∷ fs))) ∙ put_many (flat_unit 0 (Frame.job a 0 0 ∷ fs))

  fine_whole : (a i c : ℕ) (ss : List Step) (fs : List Frame) (h : Hit) → Fine many (do_whole B L u s a i c ss fs h)
  unfolding do_whole
  fine_whole a i c ss fs Hit.miss = put_many _
  fine_whole a i c ss fs (Hit.hit right b e) =
      fine_rewrite a e right b fs (eqb s.rewrites L.budget) (exceeds L.symbols (length (fill right b s.symbols) + (length s.symbols - (e - a))))

  fine_step : (a i c : ℕ) (ss : List Step) (fs : List Frame) → Fine many (do_step B L u s a i c ss fs)
  unfolding do_step
  fine_step a i c [] fs = put_many _
  fine_step a i c (Step.visit x ∷ ss) fs = fine_visit _ _
  fine_step a i c (Step.fork x ∷ ss) fs = fine_fork a (argument (arity B) s.symbols a x) i c ss fs (first_idle s.units)
  fine_step a i c (Step.join d ∷ ss) fs = fine_join a i c ss fs
  fine_step a i c (Step.whole ∷ ss) fs = fine_whole a i c ss fs (rewrite (arity B) B.rules a s.symbols)

  fine_order : (fs : List Frame) (f : Frame) → Fine many (carry_out B L u s fs f)
  unfolding carry_out arrive
  fine_order fs (Frame.job a zero c) = fine_visit a fs
  fine_order fs (Frame.job a (suc i) c) = fine_step a (suc i) c (drop i (steps B (get_or s.symbols a 0))) fs
  fine_order fs (Frame.exit v i) =
      let x : FlatUnit = flat_unit 0 fs in
      let y : FlatUnit = lowered i (unit (put s.units u x) v) in
      leave_many (woken i y) v x y
  fine_order fs Frame.sleep = put_many _
  fine_order fs Frame.bingo = tt

  fine_turn : (r : ℕ) (fs : List Frame) → Fine many (turn B L u s r fs)
  unfolding turn
  fine_turn (suc r) fs = refl
  fine_turn zero [] = refl
  fine_turn zero (f ∷ fs) = fine_order fs f

  fine_entry : Fine many (flat_entry B L u s)
  unfolding flat_entry
  fine_entry = fine_turn (unit s.units u).rank (unit s.units u).stack

module _ (B : Book) (L : Limits) where
  -- a run that is not parked ends otherwise than cut
  cut_parked : (us : List ℕ) (n : ℕ) (s : FlatState) → (flat_run_from B L n us s).ending ≡ Ending.cut → (s' : FlatState) × (flat_parked B L us s ≡ some s')
  unfolding flat_run_from flat_parked
  cut_parked [] n s e = (s, refl)
  cut_parked (u ∷ us) n s e = go (flat_entry B L u s) (fine_entry B L u s) e (cut_parked us (suc n))
    where
      go : (x : FlatOutcome) → Fine (length s.units) x → (after n (flat_run_from B L (suc n) us) x).ending ≡ Ending.cut →
          ((s : FlatState) → (flat_run_from B L (suc n) us s).ending ≡ Ending.cut → (s' : FlatState) × (flat_parked B L us s ≡ some s')) →
          (s' : FlatState) × (unless_over (flat_parked B L us) x ≡ some s')
      go (going s₁) f e h = unfold unless_over after in h s₁ e
      go (ended x s₁) f e h = absurd (subst (λ (y : Ending). Fine (length s.units) (ended y s₁)) (unfold after in e) f)

  units_parked : (us : List ℕ) (s s' : FlatState) → flat_parked B L us s ≡ some s' → length s'.units ≡ length s.units
  unfolding flat_parked
  units_parked [] s s' e = ap (λ (z : FlatState). length z.units) (sym (some-injective _ _ e))
  units_parked (u ∷ us) s s' e = go (flat_entry B L u s) (fine_entry B L u s) e (units_parked us)
    where
      go : (x : FlatOutcome) → Fine (length s.units) x → unless_over (flat_parked B L us) x ≡ some s' →
          ((s₁ s₂ : FlatState) → flat_parked B L us s₁ ≡ some s₂ → length s₂.units ≡ length s₁.units) → length s'.units ≡ length s.units
      go (going s₁) f e h = h s₁ s' (unfold unless_over in e) ∙ f
      go (ended x s₁) f e h = unfold unless_over in absurd (none-ne-some _ e)

  -- parked exactly if cut
  pub resume_cut : (us : List ℕ) (P : Parked) → (resume B L us P).ending ≡ Ending.cut → (Q : Parked) × (part B L us P ≡ some Q)
  unfolding resume part
  resume_cut us P e =
      let (s, q) = cut_parked us P.entries P.state e in
      (record { entries = kept_count (P.entries + length us); state = kept_state s }, ap (again (P.entries + length us)) q ∙ (unfold again in refl))

  pub parked_cut : (us : List ℕ) (P Q : Parked) → part B L us P ≡ some Q → (resume B L us P).ending ≡ Ending.cut
  parked_cut us P Q e =
      ap (λ (vs : List ℕ). (resume B L vs P).ending) (sym (append-nil us)) ∙ ap (λ (A : FlatAnswer). A.ending) (sym (part_run B L us [] P Q e)) ∙ (unfold resume flat_run_from in refl)

  pub units_stay : (us : List ℕ) (P Q : Parked) → part B L us P ≡ some Q → length Q.state.units ≡ length P.state.units
  unfolding part
  units_stay us P Q e = go (flat_parked B L us P.state) refl e
    where
      go : (x : Option FlatState) → flat_parked B L us P.state ≡ x → again (P.entries + length us) x ≡ some Q → length Q.state.units ≡ length P.state.units
      go none q e = unfold again in absurd (none-ne-some _ e)
      go (some s) q e =
          let eq : record { entries = kept_count (P.entries + length us); state = kept_state s } ≡ Q = unfold again in some-injective _ _ e in
          ap (λ (z : Parked). length z.state.units) (sym eq) ∙ units_parked us P.state s q

-- where a run begins it has as many units as it was given
pub start_many : (arity' : ℕ → ℕ) (units : ℕ) (xs : List ℕ) → 1 ≤ units → length (flat_start arity' units xs).units ≡ units
unfolding flat_start start_units
start_many arity' units xs l = let a = map_length asleep (numbers_from 1 (units - 1)) in let b = counted 1 (units - 1) in omega (arith, a, b, l)
  where
    counted : (k n : ℕ) → length (numbers_from k n) ≡ n
    counted k zero = unfold numbers_from in refl
    counted k (suc n) = unfold numbers_from in ap suc (counted (suc k) n)
