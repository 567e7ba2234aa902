-- What a resumption is answered, check by check, and what it leaves. Assumes nothing.
use mathlib.Core.Bool.{true, false}
use mathlib.Core.List.{List, ◌++◌}
use mathlib.Core.Option.{none, some}
use mathlib.Core.Path.{◌≡◌, refl, sym, ap, ◌∙◌, subst}
use Prim.Native.Nat.{ℕ}
use lib.ListN.{length, drop, replicate}
use Rattle.paper.specs.Result.{Result, refused, accepted, then}
use Rattle.paper.specs.Dated.{read_any}
use Rattle.paper.specs.Page.{all_below, frame_fault, unless}
use Rattle.paper.proofs.Readers.{accepted_injective, refused_accepted}
use Rattle.flat.specs.Run.{FlatAnswer}
use Rattle.tables.specs.Tables.{accepted_book, any_book}
use Rattle.engine.specs.Spec.{published}
use Rattle.engine.specs.Promises as R
use Rattle.engine.proofs.Frame.{framed, faulty}
use Rattle.run.specs.declared.Run.{Run}
use Rattle.parking.specs.Form.{Point}
use Rattle.parking.specs.Points.{Found, find_checked, areas_fault, After, behind_resumption, resume_checked, resume_of}
use Rattle.parking.proofs.Enough.{enough_since}
use Rattle.checking.specs.Promises.{Holds}
use Rattle.refusal.specs.declared.Refusal.{Refusal}
use Rattle.refusal.specs.declared.Refusal.TheVariants.{UnknownUnitInSchedule}
use Rattle.refusal.specs.Numbers.{number}
use Rattle.std.specs.Prelude.{Ok, Err}
use Rattle.points.specs.Spec.{flat_values_of, told, resumed, ResumedBy}
use Rattle.resumption.specs.Promises.{its_book, goes_on, GoneOn}
use Rattle.resumption.proofs.Slot.{held}

-- AREAS: a frame of one unit
module _ (work net output : ℕ) where
  by_frame : frame_fault published (R.frame 1 work net output) ≡ areas_fault published work net output
  unfolding frame_fault areas_fault
  by_frame = refl

  pub areas_good : R.fault 1 work net output ≡ 0 → areas_fault published work net output ≡ none
  areas_good e = sym by_frame ∙ framed (R.frame 1 work net output) e

  pub areas_bad : (k : ℕ) → k ≡ R.fault 1 work net output → (k ≡ 0 → ⊥) → areas_fault published work net output ≡ some k
  areas_bad k e n = sym by_frame ∙ faulty (R.frame 1 work net output) k e n

-- the point in slot k, and what the definition answers for it
abbrev spot : ℕ → Point → Found
spot k P = record { at = k; point = P }

abbrev after : List ℕ → List ℕ → Found → After FlatAnswer
after schedule points x = record { answer = goes_on schedule x; points = behind_resumption schedule points x (its_book schedule x) }

module _ (name schedule work net points output : List ℕ) where
  -- REFUSALS leave the buffers as they were
  refuses : (k : Refusal) → resumed name schedule work net points output ≡ refused (number k) → ResumedBy name schedule work net points output work net points output (Err k)
  refuses k e = record {
    answer = ap (λ (x : Result (After FlatAnswer)). flat_values_of (told x)) (sym e);
    unchanged = λ j h. (refl, refl, refl, refl);
    cleared = λ x h. absurd (refused_accepted (sym e ∙ h));
    points_are = λ x h. absurd (refused_accepted (sym e ∙ h));
    written = λ x h. absurd (refused_accepted (sym e ∙ h));
    enough = λ x h. absurd (refused_accepted (sym e ∙ h));
  }

  pub by_areas : (k : Refusal) → areas_fault published (length work) (length net) (length output) ≡ some (number k) → ResumedBy name schedule work net points output work net points output (Err k)
  by_areas k f = refuses k (unfold resume_of unless in rw f refl)

  module _ (f : areas_fault published (length work) (length net) (length output) ≡ none) where
    pub by_points : (k : Refusal) → find_checked name points ≡ refused (number k) → ResumedBy name schedule work net points output work net points output (Err k)
    by_points k e = refuses k (unfold resume_of unless then in rw (f, e) refl)

    module _ {k : ℕ} (h : Holds name points k) where
      book_read : read_any h.point.book ≡ accepted (any_book h.point.book)
      book_read = let b = (held h).book_read in b ∙ ap accepted (sym (ap accepted_book b))

      checked : resumed name schedule work net points output ≡ resume_checked schedule points (spot k h.point) (its_book schedule (spot k h.point))
      unfolding resume_of unless then
      checked = rw (f, h.found, book_read) refl

      pub by_schedule : all_below (length h.point.saved.parked.state.units) schedule ≡ false →
          ResumedBy name schedule work net points output work net points output (Err UnknownUnitInSchedule)
      by_schedule e = refuses UnknownUnitInSchedule (checked ∙ (unfold resume_checked in rw (e, resume_checked) refl))

      -- A RUN
      module _ (named : all_below (length h.point.saved.parked.state.units) schedule ≡ true) where
        passes : resumed name schedule work net points output ≡ accepted (after schedule points (spot k h.point))
        passes = checked ∙ (unfold resume_checked in rw (named, resume_checked) refl)

        pub accepts : {w work' net' points' output' : List ℕ} {r : Run} {z : Found} → z ≡ spot k h.point → length w ≡ length work → GoneOn schedule z w net points output work' net' points' output' r →
            ResumedBy name schedule work net points output work' net' points' output' (Ok r)
        accepts {w} {work'} {net'} {points'} {output'} {r} e long =
            subst (λ (z : Found). GoneOn schedule z w net points output work' net' points' output' r → ResumedBy name schedule work net points output work' net' points' output' (Ok r)) (sym e)
            (λ g. record {
              answer = ap accepted g.values_are ∙ sym (ap (λ (z : Result (After FlatAnswer)). flat_values_of (told z)) passes);
              unchanged = λ j q. absurd (refused_accepted (sym q ∙ passes));
              cleared = λ z q. (g.work_zero ∙ ap (λ (n : ℕ). replicate n 0) long, g.net_zero);
              points_are = λ z q. g.points_are ∙ ap (λ (v : After FlatAnswer). v.points) (accepted_injective (sym passes ∙ q));
              written = λ z q.
                  subst (λ (v : After FlatAnswer). output' ≡ v.answer.symbols ++ drop (length v.answer.symbols) output) (accepted_injective (sym passes ∙ q)) g.written;
              enough = λ z q first. enough_since published name points first (length work) (length net) (length output) schedule z q;
            })
