-- What a run with a name is answered, place by place of the table, by either reader; what a refusal leaves, and what a run. Assumes nothing.
use mathlib.Core.Bool.{true, false}
use mathlib.Core.List.{List, ◌++◌}
use mathlib.Core.Option.{Option, none, some}
use mathlib.Core.Path.{◌≡◌, refl, sym, ap, ◌∙◌, subst, subst₂}
use Prim.Native.Nat.{ℕ, min, ◌≤◌}
use native.Mathlib.Omega.{arith}
use mathlib.Core.Logic.{inl, inr}
use lib.Seq.{take_all}
use Rattle.paper.proofs.Tests.{ltb_cases}
use lib.ListN.{length, take, drop, length-take}
use Rattle.paper.specs.Result.{Result, refused, accepted, then}
use Rattle.paper.specs.Tree.{preorder}
use Rattle.paper.specs.Book.{Term, Book}
use Rattle.paper.specs.Dated.{AnyBook, read_any, on_day}
use Rattle.paper.specs.Line.{read_line}
use Rattle.paper.specs.Run.{Answer, run}
use Rattle.paper.specs.Page.{Request, all_below, frame_fault, unless, run_checked, LineReader}
use Rattle.paper.proofs.BookBytes.{longest_book}
use Rattle.paper.proofs.Prefix.{read_any_prefix}
use Rattle.paper.proofs.Readers.{accepted_injective, refused_accepted}
use Rattle.tables.specs.Layout.{day_in}
use Rattle.tables.specs.Tables.{book_of, TablesOf}
use Rattle.entry.specs.State.{limited}
use Rattle.std.specs.Prelude.{Err}
use Rattle.refusal.specs.declared.Refusal.{Refusal}
use Rattle.refusal.specs.Numbers.{number}
use Rattle.engine.specs.Spec.{Reply, published, values_of, request, answered_by, RunBy, ReducedBy}
use Rattle.engine.specs.Promises.{Framed, Taken}
use Rattle.engine.proofs.Frame.{framed}
use Rattle.engine.proofs.Answers.{run_as}
use Rattle.parking.specs.Points.{After, place_checked, behind_run, park_by}
use Rattle.parking.proofs.Checks.{park_passes, answered}
use Rattle.points.specs.Spec.{told, parked, ParkedBy}

-- REFUSALS, in the table's order

module _ (read : LineReader) (q : Request) (name points : List ℕ) where
  pub by_frame : (k : ℕ) → frame_fault published q ≡ some k → park_by read published q name points ≡ refused k
  unfolding park_by unless
  by_frame k f = rw f refl

  module _ (f : frame_fault published q ≡ none) where
    pub by_book : (k : ℕ) → read_any q.book ≡ refused k → park_by read published q name points ≡ refused k
    unfolding park_by unless then
    by_book k b = rw (f, b) refl

    module _ (A : AnyBook) (b : read_any q.book ≡ accepted A) where
      pub by_line : (k : ℕ) → read (on_day q.day A) q.line ≡ refused k → park_by read published q name points ≡ refused k
      unfolding park_by unless then
      by_line k l = rw (f, b, l) refl

      module _ (t : Term) (l : read (on_day q.day A) q.line ≡ accepted t) where
        pub by_points : (k : ℕ) → place_checked name points ≡ refused k → park_by read published q name points ≡ refused k
        unfolding park_by unless then
        by_points k p = rw (f, b, l, p) refl

        pub by_schedule : (k : ℕ) → place_checked name points ≡ accepted k → all_below q.units q.schedule ≡ false → park_by read published q name points ≡ refused 14
        unfolding park_by unless then run_checked
        by_schedule k p e = rw (f, b, l, p, e, run_checked) refl

-- the buffers are as they were
pub refuses : {read : LineReader} {book line : List ℕ} {units budget day : ℕ} {schedule name work net points output : List ℕ} (k : Refusal) →
    parked read book line units budget day schedule name work net points output ≡ refused (number k) →
    ParkedBy read book line units budget day schedule name work net points output work net points output (Err k)
refuses k e = record {
  answer = ap (λ (x : Result (After Answer)). values_of (told x)) (sym e);
  unchanged = λ j h. (refl, refl, refl, refl);
  cleared = λ x h. absurd (refused_accepted (sym e ∙ h));
  points_are = λ x h. absurd (refused_accepted (sym e ∙ h));
  written = λ x h. absurd (refused_accepted (sym e ∙ h));
  run_of = λ x h. absurd (refused_accepted (sym e ∙ h));
}

-- A RUN answers as without a name, and leaves the points behind it
module _ {read : LineReader} {book line : List ℕ} {units budget day : ℕ} {schedule name work net points output : List ℕ} where
  pub accepts : {work' net' points' output' : List ℕ} {r : Reply} (A : AnyBook) (t : Term) (k : ℕ) → let q = request book line units budget day schedule work net output in
      frame_fault published q ≡ none → read_any book ≡ accepted A →
      read (on_day day A) line ≡ accepted t → place_checked name points ≡ accepted k → all_below units schedule ≡ true →
      points' ≡ behind_run k q name points (on_day day A) t → ReducedBy read book line units budget day schedule work net output work' net' output' r →
      ParkedBy read book line units budget day schedule name work net points output work' net' points' output' r
  accepts {points' = points'} {output' = output'} A t k f b l p n e h =
      let q : Request = request book line units budget day schedule work net output in
      let B : Book = on_day day A in
      let x : After Answer = record { answer = run B (limited budget) units schedule t; points = behind_run k q name points B t } in
      let is : parked read book line units budget day schedule name work net points output ≡ accepted x = park_passes read published q name points A t k f b l p n in
      let a : answered_by read book line units budget day schedule work net output ≡ accepted x.answer = answered read published q A t f b l n in
      record {
        answer = h.answer ∙ ap values_of a ∙ sym (ap (λ (z : Result (After Answer)). values_of (told z)) is);
        unchanged = λ j g. absurd (refused_accepted (sym g ∙ is));
        cleared = λ y g. h.cleared x.answer a;
        points_are = λ y g. e ∙ ap (λ (z : After Answer). z.points) (accepted_injective (sym is ∙ g));
        written = λ y g.
            subst (λ (z : After Answer). output' ≡ preorder z.answer.term ++ drop (length (preorder z.answer.term)) output) (accepted_injective (sym is ∙ g)) (h.written x.answer a);
        run_of = λ y g.
            subst (λ (z : After Answer). RunBy read book line units budget day schedule work net output z.answer) (accepted_injective (sym is ∙ g)) (h.run_of x.answer a);
      }

-- ANOTHER BOOK OR LINE that is answered alike
module _ {read read₂ : LineReader} {book book₂ line line₂ : List ℕ} {units budget day : ℕ} {schedule name work net points output : List ℕ} where
  pub parked_as : {work' net' points' output' : List ℕ} {r : Reply} →
      parked read book line units budget day schedule name work net points output ≡ parked read₂ book₂ line₂ units budget day schedule name work net points output →
      ((x : After Answer) → parked read book line units budget day schedule name work net points output ≡ accepted x →
      RunBy read book line units budget day schedule work net output x.answer → RunBy read₂ book₂ line₂ units budget day schedule work net output x.answer) →
      ParkedBy read book line units budget day schedule name work net points output work' net' points' output' r →
      ParkedBy read₂ book₂ line₂ units budget day schedule name work net points output work' net' points' output' r
  parked_as e f h = record {
    answer = h.answer ∙ ap (λ (x : Result (After Answer)). values_of (told x)) e;
    unchanged = λ k x. h.unchanged k (e ∙ x);
    cleared = λ y x. h.cleared y (e ∙ x);
    points_are = λ y x. h.points_are y (e ∙ x);
    written = λ y x. h.written y (e ∙ x);
    run_of = λ y x. f y (e ∙ x) (h.run_of y (e ∙ x));
  }

-- the term in front of the symbols stands for what it is read from
module _ {read : LineReader} {line symbols : List ℕ} {m : ℕ} (budget : ℕ) (schedule name points : List ℕ) {book operators rules work net output : List ℕ} {units : ℕ}
    (f : Framed book units work net output) (tables : TablesOf book operators rules) (t : Taken read (book_of book rules) line symbols m) where
  abbrev front : List ℕ
  front = take m symbols

  same_term : parked read_line book front units budget (day_in rules) schedule name work net points output ≡ parked read book line units budget (day_in rules) schedule name work net points output
  unfolding park_by unless then run_checked
  same_term = rw (framed (request book line units budget (day_in rules) schedule work net output) f.faultless, tables.read, t.line_read, t.given.term_read) refl

  pub parked_alike : {work' net' points' output' : List ℕ} {r : Reply} →
      ParkedBy read_line book front units budget (day_in rules) schedule name work net points output work' net' points' output' r →
      ParkedBy read book line units budget (day_in rules) schedule name work net points output work' net' points' output' r
  parked_alike = parked_as same_term (λ x e r.
      let e : book_of book rules ≡ r.rules = ap (on_day (day_in rules)) (accepted_injective (sym tables.read ∙ r.book_read)) ∙ sym r.of_day in
      run_as r r.book_read
      (ap (λ (B : Book). read B line) (sym e) ∙ t.line_read ∙ sym t.given.term_read ∙ ap (λ (B : Book). read_line B front) e ∙ r.line_read))

pub front_short : (n : ℕ) (xs : List ℕ) → length (take n xs) ≤ n
front_short n xs = let e = length-take n xs in omega (arith, e)

-- what stands behind a book's first 65,536 bytes is not looked at, and no book is so long
same_answer : (read : LineReader) (book line : List ℕ) (units budget day : ℕ) (schedule name work net points output : List ℕ) → 65536 ≤ length book →
    parked read (take 65536 book) line units budget day schedule name work net points output ≡ parked read book line units budget day schedule name work net points output
same_answer read book line units budget day schedule name work net points output long = go (read_any book) refl
  where
    q₁ : Request
    q₁ = request (take 65536 book) line units budget day schedule work net output

    q₂ : Request
    q₂ = request book line units budget day schedule work net output

    refused_alike : (k : ℕ) (o : Option ℕ) → read_any book ≡ refused k → frame_fault published q₂ ≡ o → park_by read published q₁ name points ≡ park_by read published q₂ name points
    refused_alike k none e f = by_book read q₁ name points (unfold frame_fault in f) k (sym (read_any_prefix book long) ∙ e) ∙ sym (by_book read q₂ name points f k e)
    refused_alike k (some n) e f = by_frame read q₁ name points n (unfold frame_fault in f) ∙ sym (by_frame read q₂ name points n f)

    go : (x : Result AnyBook) → read_any book ≡ x → park_by read published q₁ name points ≡ park_by read published q₂ name points
    go (accepted A) e = absurd (let h = longest_book book A e in omega (arith, h, long))
    go (refused k) e = refused_alike k (frame_fault published q₂) e refl

pub parked_prefix : {read : LineReader} {book line : List ℕ} {units budget day : ℕ} {schedule name work net points output work' net' points' output' : List ℕ} {r : Reply} →
    65536 ≤ length book →
    ParkedBy read (take 65536 book) line units budget day schedule name work net points output work' net' points' output' r →
    ParkedBy read book line units budget day schedule name work net points output work' net' points' output' r
parked_prefix {read} {book} {line} {units} {budget} {day} {schedule} {name} {work} {net} {points} {output} long =
    parked_as (same_answer read book line units budget day schedule name work net points output long)
    (λ x e r. run_as r (read_any_prefix book long ∙ r.book_read) r.line_read)

pub parked_front : {read : LineReader} {book line : List ℕ} {units budget day : ℕ} {schedule name work net points output work' net' points' output' : List ℕ} {r : Reply} (m : ℕ) →
    m ≡ min (length book) 65536 →
    ParkedBy read (take m book) line units budget day schedule name work net points output work' net' points' output' r →
    ParkedBy read book line units budget day schedule name work net points output work' net' points' output' r
parked_front {read} {book} {line} {units} {budget} {day} {schedule} {name} {work} {net} {points} {output} {work'} {net'} {points'} {output'} {r} m e h =
    elim (ltb_cases 65536 (length book)) [
      | inl p ↦ (let l = p.1 in parked_prefix (omega (arith, l)) (subst is (let i : m ≡ 65536 = omega (arith, l, e) in ap (λ (n : ℕ). take n book) i) h))
      | inr p ↦ (let l = p.1 in subst is (take_all m book (omega (arith, l, e))) h)
    ]
  where
    is : List ℕ → Type 0
    is b = ParkedBy read b line units budget day schedule name work net points output work' net' points' output' r

-- on the day that was asked for, with as many units
pub as_asked : {read : LineReader} {book line : List ℕ} {units few budget day table : ℕ} {schedule name work net points output work' net' points' output' : List ℕ} {r : Reply} →
    few ≡ units → table ≡ day → ParkedBy read book line few budget table schedule name work net points output work' net' points' output' r →
    ParkedBy read book line units budget day schedule name work net points output work' net' points' output' r
as_asked {read} {book} {line} {budget = budget} {schedule = schedule} {name} {work} {net} {points} {output} {work'} {net'} {points'} {output'} {r} =
    subst₂ (λ (u d : ℕ). ParkedBy read book line u budget d schedule name work net points output work' net' points' output' r)
