-- "A run parked after k entries and resumed with the rest ends exactly like the unbroken one, counts included": from bytes to bytes, for any number of resumptions, whatever runs and
-- resumptions of other names come between. Assumes nothing.
use mathlib.Core.Bool.{true, false, false≢true}
use mathlib.Core.List.{List, [], ◌∷◌, ◌++◌, flatten as concat, append_assoc}
use mathlib.Core.Logic.{inl, inr}
use mathlib.Core.Option.{none, some, some-injective}
use mathlib.Core.Path.{◌≡◌, refl, sym, ◌∙◌, ap, subst}
use Prim.Native.Nat.{ℕ, ◌^◌, ◌≤◌, ◌<◌}
use lib.Dec.{ltb}
use lib.ListN.{length}
use Rattle.paper.specs.Result.{refused, accepted}
use Rattle.paper.specs.Tree.{preorder}
use Rattle.paper.specs.Book.{Term, Book, arity}
use Rattle.paper.specs.Dated.{AnyBook, read_any, on_day}
use Rattle.paper.specs.Machine.{Ending, Limits}
use Rattle.paper.specs.Run.{Answer, run}
use Rattle.paper.specs.Page.{Request, Lengths, all_below, frame_fault, LineReader}
use Rattle.paper.proofs.Books.{good_book_sound}
use Rattle.paper.proofs.Dated.{day_good}
use Rattle.paper.proofs.Line.{line_correct}
use Rattle.paper.proofs.Readers.{accepted_injective}
use Rattle.paper.proofs.Tests.{either}
use Rattle.flat.specs.Run.{FlatAnswer, flatten}
use Rattle.flat.specs.Parts.{Parked, part, parts, resume, kept_answer}
use Rattle.flat.proofs.Parts.{line_parts}
use Rattle.flat.proofs.Steps.{good_settled}
use Rattle.parking.specs.Form.{Point, limits}
use Rattle.parking.specs.Points.{Found, point_of, areas_fault, After, as_point, moved_on, begun, behind_resumption, park_by, resume_checked, resume_of}
use Rattle.parking.specs.Change11.{Reads, Onward, with_schedule, AsUnbroken}
use Rattle.parking.proofs.Endings.{units_stay, start_many}
use Rattle.parking.proofs.Checks.{Ready, still_ready, Ran, park_accepted, answered}
use Rattle.parking.proofs.Parking.{parts_cons, park_only, SavedCut, cut_saved}
use Rattle.parking.proofs.Resuming.{resumed_is, Resumed, checked_accepted, resume_accepted, resume_only, replaced}

-- where the point x, by the book A, stands after these schedules
pub record Stands (name last : List ℕ) (uss : List (List ℕ)) (x : Found) (A : AnyBook) : Type 0 where
  pub parked : Parked
  pub ready : Ready name last
  pub there : point_of name last ≡ some (record { at = x.at; point = moved_on x.point parked })
  pub is_parts : parts (on_day x.point.day A) (limits x.point.saved.budget) uss x.point.saved.parked ≡ some parked
  pub units_many : length parked.state.units ≡ length x.point.saved.parked.state.units
  pub units_named : all_below (length x.point.saved.parked.state.units) (concat uss) ≡ true

below_both : (n : ℕ) (xs ys : List ℕ) → all_below n xs ≡ true → all_below n ys ≡ true → all_below n (xs ++ ys) ≡ true
unfolding all_below
below_both n [] ys a b = b
below_both n (x ∷ xs) ys a b = elim (either (ltb x n)) [
  | inl p ↦ rw (p, all_below) (below_both n xs ys (rw (p, all_below) at a) b)
  | inr p ↦ absurd (false≢true (rw (p, all_below) at a))
]

below_concat : (n : ℕ) (us : List ℕ) (uss : List (List ℕ)) → all_below n us ≡ true → all_below n (concat uss) ≡ true → all_below n (concat (us ∷ uss)) ≡ true
unfolding concat
below_concat n us uss a b = below_both n us (concat uss) a b

-- one resumption, and what comes behind it
again : (name points last us : List ℕ) (uss : List (List ℕ)) (y : After FlatAnswer) (z : Resumed us name points y) → y.answer.ending ≡ Ending.cut →
    ((x : Found) → Ready name y.points → point_of name y.points ≡ some x → (A : AnyBook) → read_any x.point.book ≡ accepted A → Stands name last uss x A) →
    (A : AnyBook) → read_any z.found.point.book ≡ accepted A → Stands name last (us ∷ uss) z.found A
again name points last us uss y z c h A e =
    let P = z.found.point in
    let p = replaced us name points y z c in
    let B = on_day P.day A in
    let L = limits P.saved.budget in
    let same : z.held.given ≡ A = accepted_injective (sym z.held.book_read ∙ e) in
    let one : part B L us P.saved.parked ≡ some p.parked =
    subst (λ (Z : AnyBook). part (on_day P.day Z) L us P.saved.parked ≡ some p.parked) same p.is_part in
    let many : length p.parked.state.units ≡ length P.saved.parked.state.units = units_stay B L us P.saved.parked p.parked one in
    let s = h (record { at = z.found.at; point = moved_on P p.parked }) (still_ready z.found.at name name points y.points z.ready
    (resume_only us name points y z)) p.there A e in
    record {
      parked = s.parked;
      ready = s.ready;
      there = s.there;
      is_parts = parts_cons B L us uss P.saved.parked p.parked s.parked one s.is_parts;
      units_many = s.units_many ∙ many;
      units_named =
          below_concat (length P.saved.parked.state.units) us uss z.units_named (ap (λ (n : ℕ). all_below n (concat uss)) (sym many) ∙ s.units_named);
    }

pub onward : (published : Lengths) (name points last : List ℕ) (uss : List (List ℕ)) → Onward published name points uss last → (x : Found) → Ready name points →
    point_of name points ≡ some x → (A : AnyBook) → read_any x.point.book ≡ accepted A → Stands name last uss x A
onward published name points last uss (Onward.now points') x r f A e =
    record { parked = x.point.saved.parked; ready = r; there = f; is_parts = unfold parts in refl; units_many = refl; units_named = unfold concat all_below in refl }
onward published name points last uss (Onward.resumed points' last' uss' work net output us y eq c rest) x r f A e =
    let z = resume_accepted published work net output us name points' y eq in
    let is : z.found ≡ x = some-injective _ _ (sym z.there ∙ f) in
    subst (λ (w : Found). read_any w.point.book ≡ accepted A → Stands name last' (us ∷ uss') w A) is
    (again name points' last' us uss' y z c (λ x' r' f'. onward published name y.points last' uss' rest x' r' f') A) e
onward published name points last uss (Onward.other_run points' last' uss' read reads q lb other d y eq rest) x r f A e =
    let o = park_only read reads published q lb other points' y (park_accepted read published q other points' y eq) in
    onward published name y.points last' uss' rest x (still_ready _ name other points' y.points r o) (o.other_names name d ∙ f) A e
onward published name points last uss (Onward.other_resumed points' last' uss' work net output us other d y eq rest) x r f A e =
    let o = resume_only us other points' y (resume_accepted published work net output us other points' y eq) in
    onward published name y.points last' uss' rest x (still_ready _ name other points' y.points r o) (o.other_names name d ∙ f) A e

-- THE UNBROKEN RUN

same_frame : (published : Lengths) (q : Request) (schedule : List ℕ) → frame_fault published q ≡ none → frame_fault published (with_schedule q schedule) ≡ none
unfolding frame_fault
same_frame published q schedule e = e

checked_named : (schedule points : List ℕ) (x : Found) (B : Book) → all_below (length x.point.saved.parked.state.units) schedule ≡ true →
    (y : After FlatAnswer) × (resume_checked schedule points x B ≡ accepted y) × (y.answer ≡ resume B (limits x.point.saved.budget) schedule x.point.saved.parked)
unfolding resume_checked
checked_named schedule points x B e =
    let S = x.point.saved in
    let y : After FlatAnswer = record { answer = resume B (limits S.budget) schedule S.parked; points = behind_resumption schedule points x B } in
    (y, rw (e, resume_checked) refl, refl)

checked_unnamed : (schedule points : List ℕ) (x : Found) (B : Book) → all_below (length x.point.saved.parked.state.units) schedule ≡ false →
    resume_checked schedule points x B ≡ refused 14
unfolding resume_checked
checked_unnamed schedule points x B e = rw (e, resume_checked) refl

-- y is the answer of a run of q in parts, first with its schedule, then with the schedules uss, at last with vs
pub record InParts (read : LineReader) (q : Request) (uss : List (List ℕ)) (vs : List ℕ) (y : After FlatAnswer) : Type 0 where
  pub given : AnyBook
  pub term : Term
  pub parked : Parked
  pub book_read : read_any q.book ≡ accepted given
  pub line_read : read (on_day q.day given) q.line ≡ accepted term
  pub some_unit : 1 ≤ q.units
  pub is_parts : let B = on_day q.day given in parts B (limits q.budget) (q.schedule ∷ uss) (begun B q.units term) ≡ some parked
  pub same : y.answer ≡ kept_answer (flatten (run (on_day q.day given) (limits q.budget) q.units (concat (q.schedule ∷ uss) ++ vs) term))

-- a run that is parked and resumed as above, and then with the schedule vs
module _ (read : LineReader) (reads : Reads read) (published : Lengths) (q : Request) (lb : q.budget < 2 ^ 32) (name points : List ℕ) (x : After Answer)
    (run_accepted : park_by read published q name points ≡ accepted x) (run_cut : x.answer.ending ≡ Ending.cut) (last : List ℕ) (uss : List (List ℕ))
    (between : Onward published name x.points uss last) (work net output : ℕ) (lent : areas_fault published work net output ≡ none) (vs : List ℕ) where
  abbrev whole : List ℕ
  whole = q.schedule ++ (concat uss ++ vs)

  ran : Ran read published q name points x
  ran = park_accepted read published q name points x run_accepted

  abbrev B : Book
  B = on_day q.day ran.given

  abbrev L : Limits
  L = limits q.budget

  first : SavedCut read reads published q lb name points x ran
  first = cut_saved read reads published q lb name points x ran run_cut

  abbrev point : Parked → Point
  point = as_point name q.book q.day q.budget

  -- where it stands
  stands : Stands name last uss (record { at = ran.at; point = point first.parked }) ran.given
  stands =
      onward published name x.points last uss between (record { at = ran.at; point = point first.parked })
      (still_ready ran.at name name points x.points ran.ready (park_only read reads published q lb name points x ran)) first.there ran.given ran.book_read

  abbrev here : Found
  here = record { at = ran.at; point = point stands.parked }

  is : resume_of published work net output vs name last ≡ resume_checked vs last here B
  is =
      resumed_is published work net output vs name last here lent stands.ready stands.there ran.given ran.book_read

  first_units : length first.parked.state.units ≡ q.units
  first_units =
      units_stay B L q.schedule (begun B q.units ran.term) first.parked first.is_part ∙ start_many (arity B) q.units (preorder ran.term) ran.some_unit

  all_units : length stands.parked.state.units ≡ q.units
  all_units =
      stands.units_many ∙ first_units

  all_parts : parts B L (q.schedule ∷ uss) (begun B q.units ran.term) ≡ some stands.parked
  all_parts = parts_cons B L q.schedule uss (begun B q.units ran.term) first.parked stands.parked first.is_part stands.is_parts

  in_one : resume B L vs stands.parked ≡ kept_answer (flatten (run B L q.units (concat (q.schedule ∷ uss) ++ vs) ran.term))
  in_one =
      let g = day_good q.book ran.given ran.book_read q.day in
      let (c, p, l, a) = line_correct B (preorder ran.term) ran.term (reads B q.line ran.term ran.line_read) in
      line_parts B (good_book_sound B g) (good_settled B g) L q.units ran.term c (q.schedule ∷ uss) vs stands.parked all_parts

  same_answer : resume B L vs stands.parked ≡ kept_answer (flatten (run B L q.units whole ran.term))
  unfolding concat
  same_answer = in_one ∙ ap (λ (us : List ℕ). kept_answer (flatten (run B L q.units us ran.term))) (append_assoc q.schedule (concat uss) vs)

  pub in_parts : (y : After FlatAnswer) → resume_of published work net output vs name last ≡ accepted y → InParts read q uss vs y
  in_parts y e = record {
    given = ran.given;
    term = ran.term;
    parked = stands.parked;
    book_read = ran.book_read;
    line_read = ran.line_read;
    some_unit = ran.some_unit;
    is_parts = all_parts;
    same = (checked_accepted vs last here B y (sym is ∙ e)).1 ∙ in_one;
  }

  pub as_unbroken : all_below q.units vs ≡ true → AsUnbroken read published q name uss last work net output vs
  as_unbroken n =
      let (y, a, b) = checked_named vs last here B (ap (λ (m : ℕ). all_below m vs) all_units ∙ n) in
      let before : all_below q.units (concat uss) ≡ true = ap (λ (m : ℕ). all_below m (concat uss)) (sym first_units) ∙ stands.units_named in
      record {
        answer = run B L q.units whole ran.term;
        after = y;
        unbroken =
            answered read published (with_schedule q whole) ran.given ran.term (same_frame published q whole ran.frame) ran.book_read ran.line_read
            (below_both q.units q.schedule (concat uss ++ vs) ran.units_named (below_both q.units (concat uss) vs before n));
        resumed = is ∙ a;
        same = b ∙ same_answer;
      }

  -- "14: an entry naming unit U or above"
  pub refused_14 : all_below q.units vs ≡ false → resume_of published work net output vs name last ≡ refused 14
  refused_14 n =
      is ∙ checked_unnamed vs last here B (ap (λ (m : ℕ). all_below m vs) all_units ∙ n)
