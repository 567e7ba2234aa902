-- What is answered, place by place of document 01's table, by either reader; what a refusal leaves, and what a run. Assumes nothing.
use mathlib.Core.Bool.{true, false}
use mathlib.Core.List.{List, ◌++◌}
use mathlib.Core.Option.{Option, none, some}
use mathlib.Core.Path.{◌≡◌, refl, sym, ap, ◌∙◌, subst}
use Prim.Native.Nat.{ℕ, ◌≤◌}
use lib.ListN.{length, take, drop, replicate}
use Rattle.paper.specs.Result.{Result, refused, accepted, then}
use Rattle.paper.specs.Tree.{preorder}
use Rattle.paper.specs.Book.{Term, Book}
use Rattle.paper.specs.Dated.{AnyBook, read_any, on_day}
use Rattle.paper.specs.Run.{Answer, run}
use Rattle.paper.specs.Page.{Request, all_below, frame_fault, unless, run_checked, LineReader, answer_by}
use Rattle.paper.proofs.Readers.{accepted_injective, refused_accepted}
use Rattle.paper.proofs.Prefix.{read_any_prefix}
use Rattle.entry.specs.State.{limited}
use Rattle.std.specs.Prelude.{Err}
use Rattle.refusal.specs.declared.Refusal.{Refusal}
use Rattle.refusal.specs.Numbers.{number}
use Rattle.engine.specs.Spec.{Reply, published, values, values_of, request, answered_by, RunBy, ReducedBy}

module _ (read : LineReader) (q : Request) where
  -- what is answered for a reading of the line, and for one of the book
  abbrev for_line : Book → Result Term → Result Answer
  for_line B x = then x (λ t. run_checked q B t)

  abbrev for_book : Result AnyBook → Result Answer
  for_book x = then x (λ A. let B = on_day q.day A in for_line B (read B q.line))

  of_frame : (f : Option ℕ) → frame_fault published q ≡ f → answer_by read published q ≡ unless f (for_book (read_any q.book))
  unfolding answer_by
  of_frame f e = ap (λ (f : Option ℕ). unless f (for_book (read_any q.book))) e

  -- units not 1 to 8, or a buffer too short
  pub by_frame : (k : ℕ) → frame_fault published q ≡ some k → answer_by read published q ≡ refused k
  unfolding unless
  by_frame k e = of_frame (some k) e

  module _ (f : frame_fault published q ≡ none) where
    of_book : (x : Result AnyBook) → read_any q.book ≡ x → answer_by read published q ≡ for_book x
    unfolding unless
    of_book x e = of_frame none f ∙ ap for_book e

    pub by_book : (k : ℕ) → read_any q.book ≡ refused k → answer_by read published q ≡ refused k
    unfolding then
    by_book k e = of_book (refused k) e

    module _ (A : AnyBook) (b : read_any q.book ≡ accepted A) where
      abbrev B : Book
      B = on_day q.day A

      of_line : (x : Result Term) → read B q.line ≡ x → answer_by read published q ≡ for_line B x
      unfolding then
      of_line x e = of_book (accepted A) b ∙ ap (for_line B) e

      pub by_line : (k : ℕ) → read B q.line ≡ refused k → answer_by read published q ≡ refused k
      unfolding then
      by_line k e = of_line (refused k) e

      module _ (t : Term) (l : read B q.line ≡ accepted t) where
        pub of_run : answer_by read published q ≡ run_checked q B t
        unfolding then
        of_run = of_line (accepted t) l

        -- an entry that names no unit
        pub by_schedule : all_below q.units q.schedule ≡ false → answer_by read published q ≡ refused 14
        unfolding run_checked
        by_schedule e = of_run ∙ rw (e, run_checked)

        pub by_run : all_below q.units q.schedule ≡ true →
            answer_by read published q ≡ accepted (run B (limited q.budget) q.units q.schedule t)
        unfolding run_checked
        by_run e = of_run ∙ rw (e, run_checked)

-- a refusal, with the buffers as they were
pub refuses : {read : LineReader} {book line : List ℕ} {units budget day : ℕ} {schedule work net output : List ℕ} (k : Refusal) →
    answered_by read book line units budget day schedule work net output ≡ refused (number k) →
    ReducedBy read book line units budget day schedule work net output work net output (Err k)
refuses k e = record {
  answer = ap values_of (sym e);
  unchanged = λ j h. (refl, refl, refl);
  cleared = λ A h. absurd (refused_accepted (sym e ∙ h));
  written = λ A h. absurd (refused_accepted (sym e ∙ h));
  run_of = λ A h. absurd (refused_accepted (sym e ∙ h));
}

-- the answer of a run, with both areas all zero and the present term in front of the output
pub accepts : {read : LineReader} {book line : List ℕ} {units budget day : ℕ} {schedule work net output work' net' output' : List ℕ} {r : Reply}
    {A : Answer} → answered_by read book line units budget day schedule work net output ≡ accepted A → values r ≡ values_of (accepted A) →
    RunBy read book line units budget day schedule work net output A → work' ≡ replicate (length work) 0 → net' ≡ replicate (length net) 0 →
    output' ≡ preorder A.term ++ drop (length (preorder A.term)) output →
    ReducedBy read book line units budget day schedule work net output work' net' output' r
accepts {read} {book} {line} {units} {budget} {day} {schedule} {work} {net} {output} {output' = output'} told v run e z o = record {
  answer = v ∙ ap values_of (sym told);
  unchanged = λ k h. absurd (refused_accepted (sym h ∙ told));
  cleared = λ A h. (e, z);
  written = λ A h. subst (λ (x : Answer). output' ≡ preorder x.term ++ drop (length (preorder x.term)) output) (accepted_injective (sym told ∙ h)) o;
  run_of = λ A h. subst (RunBy read book line units budget day schedule work net output) (accepted_injective (sym told ∙ h)) run;
}

-- ANOTHER BOOK OR LINE that is answered alike

module _ {read read₂ : LineReader} {book book₂ line line₂ : List ℕ} {units budget day : ℕ} {schedule work net output : List ℕ} where
  pub run_as : {A : Answer} (r : RunBy read book line units budget day schedule work net output A) → read_any book₂ ≡ accepted r.given →
      read₂ r.rules line₂ ≡ accepted r.term → RunBy read₂ book₂ line₂ units budget day schedule work net output A
  run_as r b l = record {
    given = r.given;
    rules = r.rules;
    term = r.term;
    book_read = b;
    of_day = r.of_day;
    line_read = l;
    units_named = r.units_named;
    holds = r.holds;
  }

  pub reduced_as : {work' net' output' : List ℕ} {r : Reply} →
      answered_by read book line units budget day schedule work net output ≡ answered_by read₂ book₂ line₂ units budget day schedule work net output →
      ((A : Answer) → RunBy read book line units budget day schedule work net output A → RunBy read₂ book₂ line₂ units budget day schedule work net output A) →
      ReducedBy read book line units budget day schedule work net output work' net' output' r →
      ReducedBy read₂ book₂ line₂ units budget day schedule work net output work' net' output' r
  reduced_as e f h = record {
    answer = h.answer ∙ ap values_of e;
    unchanged = λ k x. h.unchanged k (e ∙ x);
    cleared = λ A x. h.cleared A (e ∙ x);
    written = λ A x. h.written A (e ∙ x);
    run_of = λ A x. f A (h.run_of A (e ∙ x));
  }

-- what stands behind a book's first 65,536 bytes is not looked at
same_answer : (read : LineReader) (book line : List ℕ) (units budget day : ℕ) (schedule work net output : List ℕ) → 65536 ≤ length book →
    answered_by read book line units budget day schedule work net output ≡ answered_by read (take 65536 book) line units budget day schedule work net output
unfolding answer_by frame_fault run_checked
same_answer read book line units budget day schedule work net output long =
    let q : Request = request book line units budget day schedule work net output in
    ap (λ (x : Result AnyBook). unless (frame_fault published q) (for_book read q x)) (read_any_prefix book long)

pub reduced_prefix : {read : LineReader} {book line : List ℕ} {units budget day : ℕ} {schedule work net output work' net' output' : List ℕ} {r : Reply} →
    65536 ≤ length book →
    ReducedBy read (take 65536 book) line units budget day schedule work net output work' net' output' r →
    ReducedBy read book line units budget day schedule work net output work' net' output' r
reduced_prefix {read} {book} {line} {units} {budget} {day} {schedule} {work} {net} {output} long =
    reduced_as (sym (same_answer read book line units budget day schedule work net output long))
    (λ A r. run_as r (read_any_prefix book long ∙ r.book_read) r.line_read)
