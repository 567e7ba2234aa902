-- The run over a schedule, one entry after the other: after i entries the answer, and where the run stands if it is cut, are those of the run over the rest, from the
-- state that is now kept. Assumes nothing.
use mathlib.Core.Path.{◌≡◌, refl, sym, ap, ◌∙◌}
use mathlib.Core.List.{List, ◌∷◌}
use mathlib.Core.Logic.{◌≢◌}
use mathlib.Core.Option.{none, some}
use Prim.Native.Nat.{ℕ, suc, ◌+◌, ◌^◌, ◌≤◌, ◌<◌}
use native.Mathlib.Numerals.{add-one}
use native.Mathlib.Omega.{arith}
use lib.ListN.{length, get_or, drop, drop_of_length-le}
use lib.Seq.{drop-cons}
use Rattle.paper.specs.Book.{Book}
use Rattle.paper.specs.Machine as paper
use Rattle.paper.proofs.Books.{good_book_sound}
use Rattle.flat.specs.Machine.{FlatState, FlatOutcome, going, ended, flat_entry}
use Rattle.flat.specs.Run.{flat_answer, after, flat_run_from, Reached}
use Rattle.flat.specs.Parts.{unless_over, flat_parked}
use Rattle.flat.proofs.Inside.{known_entry}
use Rattle.flat.proofs.Points.{reached_meets}
use Rattle.flat.proofs.Steps.{good_settled}
use Rattle.flat.proofs.Tallies.{Tallied, tallied_next}
use Rattle.tables.proofs.Laws.{all_at}
use Rattle.net.specs.Net.{book_by}
use Rattle.net.proofs.Laws.{tables_by}
use Rattle.whole.specs.declared.Progress.{Progress}
use Rattle.whole.specs.declared.Limits.{Limits}
use Rattle.entry.specs.State.{limited, state, Arrays}
use Rattle.entry.specs.Promises.{Running, Turn}
use Rattle.run.specs.Promises as R
use Rattle.run.specs.Promises.{ending, begun, Runnable, left_by, Ran}
use Rattle.entry.specs.declared.Ending.{Ending}
use Rattle.run.specs.declared.Run.{Run}

-- THE MACHINE ON LISTS

module _ (B : Book) (L : paper.Limits) (us : List ℕ) (i : ℕ) (s : FlatState) where
  -- one more entry
  run_more : i < length us → (u : ℕ) → u ≡ get_or us i 0 → (o : FlatOutcome) → o ≡ flat_entry B L u s →
      flat_run_from B L i (drop i us) s ≡ after i (flat_run_from B L (i + 1) (drop (i + 1) us)) o
  unfolding flat_run_from
  run_more l u eu o e =
      rw (add-one i)
      (ap (λ (vs : List ℕ). flat_run_from B L i vs s) (drop-cons us i 0 l ∙ ap (λ (v : ℕ). v ∷ drop (suc i) us) (sym eu))
      ∙ ap (after i (flat_run_from B L (suc i) (drop (suc i) us))) (sym e))

  parked_more : i < length us → (u : ℕ) → u ≡ get_or us i 0 → (o : FlatOutcome) → o ≡ flat_entry B L u s →
      flat_parked B L (drop i us) s ≡ unless_over (flat_parked B L (drop (i + 1) us)) o
  unfolding flat_parked
  parked_more l u eu o e =
      rw (add-one i)
      (ap (λ (vs : List ℕ). flat_parked B L vs s) (drop-cons us i 0 l ∙ ap (λ (v : ℕ). v ∷ drop (suc i) us) (sym eu))
      ∙ ap (unless_over (flat_parked B L (drop (suc i) us))) (sym e))

  -- no entry is left
  run_cut : length us ≤ i → flat_run_from B L i (drop i us) s ≡ flat_answer paper.Ending.cut i s
  unfolding flat_run_from
  run_cut l = ap (λ (vs : List ℕ). flat_run_from B L i vs s) (drop_of_length-le us l)

  parked_cut : length us ≤ i → flat_parked B L (drop i us) s ≡ some s
  unfolding flat_parked
  parked_cut l = ap (λ (vs : List ℕ). flat_parked B L vs s) (drop_of_length-le us l)

-- THE STATE AS IT IS KEPT

-- of a run that an entry has ended nothing is left
left_none : (x : Ending) → x ≢ Ending.Cut → (s : FlatState) → left_by x s ≡ none
left_none Ending.Finished over s = refl
left_none Ending.Spent over s = refl
left_none Ending.Full over s = refl
left_none Ending.Cut over s = absurd (over refl)

-- after i entries of the run from the state s₀
pub record Along (bytes operators net : List ℕ) (l : Limits) (schedule : List ℕ) (s₀ : FlatState) (symbols scratch work units order : List ℕ) (p : Progress) (i : ℕ) :
    Type 0 where
  pub arrays : Arrays symbols scratch work units order l
  pub running : Running bytes operators net l (state symbols work units order p l)
  pub tallied : Tallied l.budget i (state symbols work units order p l)
  pub is : flat_run_from (book_by bytes net) (limited l.budget) 0 schedule s₀ ≡
      flat_run_from (book_by bytes net) (limited l.budget) i (drop i schedule) (state symbols work units order p l)
  pub parked : flat_parked (book_by bytes net) (limited l.budget) schedule s₀ ≡
      flat_parked (book_by bytes net) (limited l.budget) (drop i schedule) (state symbols work units order p l)
  pub used : i ≤ length schedule

module _ {bytes operators net : List ℕ} {l : Limits} {schedule : List ℕ} where
  -- before the first entry
  pub along_start : {symbols scratch work units order : List ℕ} (rewrites : ℕ) → Arrays symbols scratch work units order l →
      Runnable bytes operators net l schedule (state symbols work units order (begun rewrites) l) →
      Along bytes operators net l schedule (state symbols work units order (begun rewrites) l) symbols scratch work units order (begun rewrites) 0
  along_start rewrites a r =
      let g = (tables_by r.running.netted).good in
      let B : Book = book_by bytes net in
      record {
        arrays = a;
        running = r.running;
        tallied = record { allowed = (reached_meets B (good_book_sound B g) (good_settled B g) (limited l.budget) _ r.running.reached).within; forks = omega arith };
        is = refl;
        parked = refl;
        used = omega arith;
      }

  module _ {s₀ : FlatState} {symbols scratch work units order : List ℕ} {p : Progress} {i : ℕ}
      (a : Along bytes operators net l schedule s₀ symbols scratch work units order p i) where
    -- the next entry may be made
    pub along_turn : Runnable bytes operators net l schedule s₀ → i + 1 < 2 ^ 64 → i < length schedule → (u : ℕ) → u ≡ get_or schedule i 0 →
        Turn l u (state symbols work units order p l)
    along_turn r room h u eu = record {
      one = rw eu (all_at _ 0 schedule i r.named h);
      allowed = a.tallied.allowed;
      small = r.small;
      room = omega (arith, a.tallied.forks);
    }

    module _ (h : i < length schedule) (u : ℕ) (eu : u ≡ get_or schedule i 0) {symbols' scratch' work' units' order' : List ℕ} where
      -- the entry leads to another state
      pub along_goes : (p' : Progress) → going (state symbols' work' units' order' p' l) ≡ flat_entry (book_by bytes net) (limited l.budget) u (state symbols work units order p l) →
          Arrays symbols' scratch' work' units' order' l → Along bytes operators net l schedule s₀ symbols' scratch' work' units' order' p' (i + 1)
      unfolding after unless_over
      along_goes p' e z =
          let g = (tables_by a.running.netted).good in
          let B : Book = book_by bytes net in
          record {
            arrays = z;
            running = record {
              netted = a.running.netted;
              short = a.running.short;
              reached = Reached.next a.running.reached u (sym e);
              known = known_entry B g (limited l.budget) u _ _ a.running.known (sym e);
            };
            tallied = rw (add-one i) (tallied_next B (limited l.budget) u _ a.tallied (sym e));
            is = a.is ∙ run_more B (limited l.budget) schedule i _ h u eu _ e;
            parked = a.parked ∙ parked_more B (limited l.budget) schedule i _ h u eu _ e;
            used = omega arith;
          }

      -- the entry ends the run, and the state is as it was
      pub along_ends : (x : Ending) → x ≢ Ending.Cut →
          ended (ending x) (state symbols' work' units' order' p l) ≡ flat_entry (book_by bytes net) (limited l.budget) u (state symbols work units order p l) →
          Arrays symbols' scratch' work' units' order' l → (r : Run) → r ≡ R.ended x (i + 1) p symbols' →
          Ran bytes net l schedule s₀ symbols' scratch' work' units' order' r
      unfolding after unless_over
      along_ends x over e z r er =
          rw er (record {
            is =
                ap (λ (j : ℕ). flat_answer (ending x) j (state symbols' work' units' order' p l)) (add-one i)
                ∙ sym (a.is ∙ run_more (book_by bytes net) (limited l.budget) schedule i _ h u eu _ e);
            parked = left_none x over _ ∙ sym (a.parked ∙ parked_more (book_by bytes net) (limited l.budget) schedule i _ h u eu _ e);
            bounded = record {
              long = z.symbols_long;
              root = refl;
              most = z.most;
              allowed = a.tallied.allowed;
              used = omega arith;
              forks = omega (arith, a.tallied.forks);
            };
            arrays = z;
          })

    -- the schedule is at its end
    pub along_cut : length schedule ≤ i → (r : Run) → r ≡ R.ended Ending.Cut i p symbols → Ran bytes net l schedule s₀ symbols scratch work units order r
    along_cut h r er =
        rw er (record {
          is = sym (a.is ∙ run_cut (book_by bytes net) (limited l.budget) schedule i _ h);
          parked = sym (a.parked ∙ parked_cut (book_by bytes net) (limited l.budget) schedule i _ h);
          bounded = record {
            long = a.arrays.symbols_long;
            root = refl;
            most = a.arrays.most;
            allowed = a.tallied.allowed;
            used = a.used;
            forks = a.tallied.forks;
          };
          arrays = a.arrays;
        })
