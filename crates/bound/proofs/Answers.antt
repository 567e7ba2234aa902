-- The one-unit run's answer as what is told of it: its refusal, its ending, or S and F. Assumes nothing.
use mathlib.Core.List.{List}
use mathlib.Core.Path.{◌≡◌, refl, sym, ap, ◌∙◌, subst}
use Prim.Native.Nat.{ℕ, ◌+◌, ◌≤◌}
use native.Mathlib.Omega.{arith}
use lib.ListN.{length, replicate}
use Rattle.paper.specs.Result.{Result, refused, accepted, then}
use Rattle.paper.specs.Tree.{Correct, preorder}
use Rattle.paper.specs.Book.{Term, Book, arity}
use Rattle.paper.specs.Machine.{Ending}
use Rattle.paper.specs.Run.{Answer}
use Rattle.paper.specs.Page.{LineReader, answer_by}
use Rattle.paper.specs.Sound.{Sound}
use Rattle.paper.proofs.Dated.{day_sound}
use Rattle.paper.proofs.Enough.{told_alone}
use Rattle.paper.proofs.Line.{line_correct}
use Rattle.paper.proofs.Readers.{accepted_injective, refused_accepted}
use Rattle.paper.proofs.Text.{text_correct}
use Rattle.entry.specs.State.{limited}
use Rattle.entry.specs.declared.Ending as C
use Rattle.run.specs.declared.Run.{Run}
use Rattle.run.specs.Promises.{ending}
use Rattle.engine.specs.Spec as R
use Rattle.std.specs.Prelude.{Ok, Err}
use Rattle.refusal.specs.declared.Refusal.{Refusal}
use Rattle.refusal.specs.Numbers.{number}
use Rattle.engine.specs.declared.Form as F
use Rattle.bound.specs.Spec.{Bound, tells, ran, bound_of, bound_told, ToldBy, BoundBy}
use Rattle.bound.specs.declared.Bound as D

-- BY THE ENDING

pub other : (e : C.Ending) (s f : ℕ) → (e ≡ C.Ending.Finished → ⊥) → Bound.unknown (ending e) ≡ tells (ending e) s f
unfolding tells
other C.Ending.Finished s f n = absurd (n refl)
other C.Ending.Spent s f n = refl
other C.Ending.Full s f n = refl
other C.Ending.Cut s f n = refl

pub finished : (e : C.Ending) (s f : ℕ) → e ≡ C.Ending.Finished → Bound.told s f ≡ tells (ending e) s f
unfolding tells
finished e s f n = rw n

-- what is told are the numbers of a run that finished
told_of : (e : Ending) (s f S F : ℕ) → tells e s f ≡ Bound.told S F → (e ≡ Ending.finished) × (s ≡ S) × (f ≡ F)
unfolding tells
told_of Ending.finished s f S F h = (refl, cc, cc)
told_of Ending.spent s f S F h = let z : ◌≡◌ {A = ℕ} 0 1 = cc in absurd (omega arith)
told_of Ending.full s f S F h = let z : ◌≡◌ {A = ℕ} 0 1 = cc in absurd (omega arith)
told_of Ending.cut s f S F h = let z : ◌≡◌ {A = ℕ} 0 1 = cc in absurd (omega arith)

-- THE RUN

correct_read : (f : F.Form) (B : Book) (line : List ℕ) (t : Term) → R.reader f B line ≡ accepted t → Correct (arity B) t
correct_read F.Form.Term B line t e = (line_correct B line t e).0
correct_read F.Form.Text B line t e = (text_correct B line t e).0

-- the definition's answer that the code's is
pub record Accepted (x : Result Answer) (run : Run) : Type 0 where
  pub answer : Answer
  pub is : x ≡ accepted answer
  pub values : R.run_values run ≡ record {
    ending = answer.ending;
    rewrites = answer.rewrites;
    entries = answer.entries;
    granted = answer.granted;
    kept = answer.kept;
    length = length (preorder answer.term);
  }

accepted_as : (x : Result Answer) (run : Run) → accepted (R.run_values run) ≡ R.values_of x → Accepted x run
accepted_as (refused k) run e = absurd (refused_accepted (sym e))
accepted_as (accepted A) run e = record { answer = A; is = refl; values = accepted_injective e }

refused_by : (x : Result Answer) (k : ℕ) → refused k ≡ R.values_of x → x ≡ refused k
refused_by (refused j) k e = let i : k ≡ j = cc in ap refused (sym i)
refused_by (accepted A) k e = absurd (refused_accepted e)

-- of any run: what its answer is
pub made : {read : LineReader} {book line : List ℕ} {units budget day : ℕ} {schedule work net output work' net' output' : List ℕ} {a : R.Reply} →
    R.ReducedBy read book line units budget day schedule work net output work' net' output' a → (run : Run) → a ≡ Ok run →
    Accepted (R.answered_by read book line units budget day schedule work net output) run
made d run e = accepted_as _ run (sym (ap R.values e) ∙ d.answer)

-- THE ANSWER

module _ (f : F.Form) {book line : List ℕ} {budget day : ℕ} {work net output work' net' output' : List ℕ} {a : R.Reply}
    (d : R.ReducedBy (R.reader f) book line 1 budget day (replicate 65536 0) work net output work' net' output' a) where
  -- the FORKs are no more than the entries
  pub forks_few : (run : Run) → a ≡ Ok run → run.granted + run.kept ≤ run.entries
  forks_few run e =
      let m = made d run e in
      omega (
        arith,
        (d.run_of m.answer m.is).holds.forks_within,
        ap (λ (v : R.Values). v.granted) m.values,
        ap (λ (v : R.Values). v.kept) m.values,
        ap (λ (v : R.Values). v.entries) m.values,
      )

  module _ (o : length output ≡ 1024) where
    same_run : R.answered_by (R.reader f) book line 1 budget day (replicate 65536 0) work net output ≡ ran (R.reader f) book line budget day work net
    same_run =
        ap (λ (n : ℕ). answer_by (R.reader f) R.published (record {
          book = book;
          line = line;
          units = 1;
          budget = budget;
          day = day;
          schedule = replicate 65536 0;
          work = length work;
          net = length net;
          output = n;
        })) o

    pub of_refused : (k : Refusal) → a ≡ Err k → BoundBy (R.reader f) book line budget day work net work' net' (Err k)
    unfolding bound_of then
    of_refused k e =
        let r = refused_by _ (number k) (sym (ap R.values e) ∙ d.answer) in
        let b : bound_of (R.reader f) book line budget day work net ≡ refused (number k) = rw (sym same_run ∙ r) refl in
        record {
          answer = sym b;
          exact = λ S F h. absurd (refused_accepted (sym b ∙ h));
          unchanged = λ j h. let (w, n, q) = d.unchanged (number k) r in (w, n);
          cleared = λ c h. absurd (refused_accepted (sym b ∙ h));
        }

    -- S and F, if the run finished
    exactly : (A : Answer) → R.answered_by (R.reader f) book line 1 budget day (replicate 65536 0) work net output ≡ accepted A → A.ending ≡ Ending.finished →
        ToldBy (R.reader f) book line budget day A.entries (A.granted + A.kept)
    exactly A e fin =
        let r = d.run_of A e in
        let sound : Sound r.rules = subst Sound (sym r.of_day) (day_sound book r.given r.book_read day) in
        let is = r.holds.is in
        let t = told_alone r.rules sound r.term (correct_read f r.rules line r.term r.line_read) (limited budget) 65536
        (sym (ap (λ (A : Answer). A.ending) is) ∙ fin) in
        rw is
        (record {
          given = r.given;
          rules = r.rules;
          term = r.term;
          book_read = r.book_read;
          of_day = r.of_day;
          line_read = r.line_read;
          finishes = t.0;
          orders = t.1;
          forks = t.2;
        })

    pub of_ran : (run : Run) → a ≡ Ok run → {b : D.Bound} →
        bound_told b ≡ tells (ending run.ending) run.entries (run.granted + run.kept) →
        BoundBy (R.reader f) book line budget day work net work' net' (Ok b)
    unfolding bound_of then
    of_ran run e v =
        let m = made d run e in
        let A = m.answer in
        let b : bound_of (R.reader f) book line budget day work net ≡ accepted (tells A.ending A.entries (A.granted + A.kept)) =
        rw (sym same_run ∙ m.is) refl in
        record {
          answer = ap accepted v ∙ ap (λ (x : R.Values). accepted (tells x.ending x.entries (x.granted + x.kept))) m.values ∙ sym b;
          exact = λ S F h.
              let (fin, s, g) = told_of A.ending A.entries (A.granted + A.kept) S F (accepted_injective (sym b ∙ h)) in
              rw (sym s, sym g) (exactly A m.is fin);
          unchanged = λ k h. absurd (refused_accepted (sym h ∙ b));
          cleared = λ c h. d.cleared A m.is;
        }
