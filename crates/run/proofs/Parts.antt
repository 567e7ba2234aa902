-- What the numbers of a run tell where it is a part of one: its ending tells what is left to resume, and its counts are added to those of the parts before. Assumes
-- nothing.
use mathlib.Core.List.{List}
use mathlib.Core.Option.{some}
use mathlib.Core.Path.{◌≡◌, sym, ap, ◌∙◌}
use Prim.Native.Nat.{ℕ, ◌+◌}
use native.Mathlib.Omega.{arith}
use lib.ListN.{length}
use Rattle.flat.specs.Machine.{FlatState}
use Rattle.flat.specs.Run.{FlatAnswer}
use Rattle.flat.specs.Parts.{flat_parked, kept_count, kept_state, kept_answer, from_zero, add_forks, add_counts, Parked, part, resume}
use Rattle.flat.proofs.Counted.{resume_counted, part_counted, parked_answer}
use Rattle.net.specs.Net.{book_by}
use Rattle.whole.specs.declared.Limits.{Limits}
use Rattle.entry.specs.State.{limited, state}
use Rattle.run.specs.Promises.{answer, counted, left_by, Ran}
use Rattle.entry.specs.declared.Ending.{Ending}
use Rattle.run.specs.declared.Run.{Run}

module _ {bytes net : List ℕ} {l : Limits} {schedule symbols scratch work units order : List ℕ} {r : Run} where
  -- by the ending
  pub ran_left : {s : FlatState} → Ran bytes net l schedule s symbols scratch work units order r → (x : Ending) → r.ending ≡ x →
      flat_parked (book_by bytes net) (limited l.budget) schedule s ≡ left_by x (state symbols work units order (counted r) l)
  ran_left h x e = sym h.parked ∙ ap (λ (y : Ending). left_by y (state symbols work units order (counted r) l)) e

  -- a cut run has used every entry
  pub cut_used : {s : FlatState} → Ran bytes net l schedule s symbols scratch work units order r → r.ending ≡ Ending.Cut → r.entries ≡ length schedule
  cut_used {s} h e =
      let q = parked_answer (book_by bytes net) (limited l.budget) 0 schedule s _ (ran_left h Ending.Cut e) in
      omega (arith, ap (λ (a : FlatAnswer). a.entries) (h.is ∙ q))

  -- A PART of the run that was parked at P, counted from zero
  module _ (P : Parked) (h : Ran bytes net l schedule (from_zero P.state) symbols scratch work units order r) where
    pub resumed : resume (book_by bytes net) (limited l.budget) schedule P ≡
        kept_answer (add_counts P.entries P.state.granted P.state.kept (answer r symbols))
    resumed =
        resume_counted (book_by bytes net) (limited l.budget) schedule P
        ∙ ap (λ (a : FlatAnswer). kept_answer (add_counts P.entries P.state.granted P.state.kept a)) (sym h.is)

    -- where it is parked again, if it is cut
    pub parted : r.ending ≡ Ending.Cut → part (book_by bytes net) (limited l.budget) schedule P ≡ some (record {
      entries = kept_count (P.entries + r.entries);
      state = kept_state (add_forks P.state.granted P.state.kept (state symbols work units order (counted r) l));
    })
    parted e =
        part_counted (book_by bytes net) (limited l.budget) schedule P _ (ran_left h Ending.Cut e)
        ∙ ap (λ (n : ℕ). some (record {
          entries = kept_count (P.entries + n);
          state = kept_state (add_forks P.state.granted P.state.kept (state symbols work units order (counted r) l));
        })) (sym (cut_used h e))
