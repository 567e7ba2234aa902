-- What an accepted run with a name and an accepted resumption passed, and what a slot that is put leaves of the buffer. Assumes nothing.
use mathlib.Core.Bool.{true, false≢true}
use mathlib.Core.List.{List}
use mathlib.Core.Logic.{inl, inr}
use mathlib.Core.Option.{Option, none, some, none-ne-some}
use mathlib.Core.Path.{◌≡◌, refl, sym, ◌∙◌, ap, subst}
use Prim.Native.Nat.{ℕ, ◌<◌, ◌≤◌}
use native.Mathlib.Omega.{arith}
use lib.Dec.{leb}
use lib.ListN.{length, set}
use Rattle.paper.specs.Result.{Result, accepted, then}
use Rattle.paper.specs.Book.{Term, Book}
use Rattle.paper.specs.Dated.{AnyBook, read_any, on_day}
use Rattle.paper.specs.Run.{Answer, run}
use Rattle.paper.specs.Page.{Request, Lengths, all_below, frame_fault, unless, run_checked, LineReader, answer_by}
use Rattle.paper.proofs.Readers.{accepted_injective, refused_accepted, then_accepted}
use Rattle.paper.proofs.Tests.{either, eqb_cases, ltb_cases, ltb_false, leb_cases}
use Rattle.flat.specs.Tested.{and}
use Rattle.parking.specs.Form.{slot_length, name_length, limits, read_slot}
use Rattle.parking.specs.Points.{points_length, read_slots, put, find, place, all_good, name_good, points_fault, or_refuse, place_checked, After, behind_run, park_by}
use Rattle.parking.specs.Change11.{Only}
use Rattle.parking.proofs.Buffer.{Reaches, put_length, put_other, put_behind, eight, put_read, zeros, length_zeros, none_in_zeros}
use Rattle.parking.proofs.Slots
use Rattle.parking.proofs.Slots.{Open, Good, good_slots, slots_good, open_bears, Place, set_good, find_other}

-- THE BUFFER IS READY for a name
pub record Ready (name points : List ℕ) : Type 0 where
  pub enough : points_length ≤ length points
  pub good : all_good (read_slots points) ≡ true
  pub some_name : 1 ≤ length name
  pub short_name : length name ≤ name_length

name_cases : (name : List ℕ) → name_good name ≡ true → (1 ≤ length name) × (length name ≤ name_length)
unfolding name_good and
name_cases name e = elim (leb_cases 1 (length name)) [
  | inl p ↦
      elim (leb_cases (length name) name_length) [
        | inl q ↦ (p.1, q.1)
        | inr q ↦ absurd (false≢true (rw (p.0, q.0) at e))
      ]
  | inr p ↦ absurd (false≢true (rw p.0 at e))
]

pub points_ready : (name points : List ℕ) → points_fault name points ≡ none → Ready name points
unfolding points_fault
points_ready name points e = elim (ltb_cases (length points) points_length) [
  | inl p ↦ absurd (none-ne-some _ (sym (rw p.0 at e)))
  | inr p ↦
      elim (either (all_good (read_slots points))) [
        | inl g ↦
            elim (either (name_good name)) [
              | inl n ↦ (let (a, b) = name_cases name n in record { enough = p.1; good = g; some_name = a; short_name = b })
              | inr n ↦ absurd (none-ne-some _ (sym (rw (p.0, g, n) at e)))
            ]
        | inr g ↦ absurd (none-ne-some _ (sym (rw (p.0, g) at e)))
      ]
]

pub ready_points : (name points : List ℕ) → Ready name points → points_fault name points ≡ none
unfolding points_fault name_good and
ready_points name points r = rw (ltb_false (length points) points_length r.enough, r.good, leb_true 1 (length name) r.some_name, leb_true (length name) name_length r.short_name) refl
  where
    leb_true : (m n : ℕ) → m ≤ n → leb m n ≡ true
    leb_true m n l = elim (leb_cases m n) [ inl p ↦ p.0 | inr p ↦ absurd (let a = p.1 in omega (arith, a, l)) ]

-- an all-zero buffer is ready for every name, which takes its first slot
module _ (n : ℕ) (enough : points_length ≤ n) where
  pub zeros_ready : (name : List ℕ) → 1 ≤ length name → length name ≤ name_length → Ready name (zeros n)
  zeros_ready name a b = record {
    enough = subst (λ (m : ℕ). points_length ≤ m) (sym (length_zeros n)) enough;
    good = ap all_good (none_in_zeros n enough) ∙ (unfold all_good in refl);
    some_name = a;
    short_name = b;
  }

  pub zeros_place : (name : List ℕ) → place name (read_slots (zeros n)) ≡ some 0
  zeros_place name = ap (place name) (none_in_zeros n enough) ∙ (unfold place in refl)

-- ONE SLOT OF A NAME IS ALL THAT CHANGES

module _ (name points : List ℕ) (r : Ready name points) (k : ℕ) (p : Place name (read_slots points) k) where
  pub inside : k < 8
  inside = let l = p.inside in let e = eight points in omega (arith, l, e)

  pub only_none : Only k name points points
  only_none = record { inside = inside; others = λ j d. refl; beyond = refl; as_long = refl; other_names = λ other d. refl; good = r.good }

  module _ (bytes : List ℕ) (long : length bytes ≡ slot_length) (o : Open name (read_slot bytes)) where
    pub reaches : Reaches k points
    reaches = let a = r.enough in let b = inside in omega (arith, a, b)

    pub slots_put : read_slots (put k bytes points) ≡ set (read_slots points) k (read_slot bytes)
    slots_put = put_read k bytes points long r.enough inside

    pub put_good : Good (read_slots (put k bytes points))
    put_good = subst Good (sym slots_put) (set_good name (read_slots points) k (read_slot bytes) (good_slots (read_slots points) r.good) p.inside p.alone o)

    pub only_put : Only k name points (put k bytes points)
    only_put = record {
      inside = inside;
      others = put_other k bytes points long reaches;
      beyond = put_behind k bytes points long reaches inside;
      as_long = put_length k bytes points long reaches;
      other_names = λ other d.
          ap (find 0 other) slots_put
          ∙ find_other 0 k other (read_slots points) (read_slot bytes) (λ b. d (open_bears name (Slots.at (read_slots points) k) other p.opened b)) (λ b. d (open_bears name (read_slot bytes) other o b));
      good = slots_good (read_slots (put k bytes points)) put_good;
    }

-- so the buffer stays ready for every name
pub still_ready : (k : ℕ) (name other points points' : List ℕ) → Ready name points → Only k other points points' → Ready name points'
still_ready k name other points points' r o =
    record { enough = (let a = r.enough in let b = o.as_long in omega (arith, a, b)); good = o.good; some_name = r.some_name; short_name = r.short_name }

-- A RUN WITH A NAME THAT IS ACCEPTED

pub unless_accepted : {A : Type 0} (o : Option ℕ) (x : Result A) (a : A) → unless o x ≡ accepted a → (o ≡ none) × (x ≡ accepted a)
unfolding unless
unless_accepted none x a e = (refl, e)
unless_accepted (some n) x a e = absurd (refused_accepted e)

pub or_accepted : {A : Type 0} (n : ℕ) (o : Option A) (a : A) → or_refuse n o ≡ accepted a → o ≡ some a
unfolding or_refuse
or_accepted n none a e = absurd (refused_accepted e)
or_accepted n (some b) a e = ap some (accepted_injective e)

frame_units : (published : Lengths) (q : Request) → frame_fault published q ≡ none → (1 ≤ q.units) × (q.units ≤ 8)
unfolding frame_fault
frame_units published q e = elim (eqb_cases q.units 0) [
  | inl p ↦ absurd (none-ne-some _ (sym (rw p.0 at e)))
  | inr p ↦
      elim (ltb_cases 8 q.units) [
        | inl l ↦ absurd (none-ne-some _ (sym (rw (p.0, l.0) at e)))
        | inr l ↦ (let d = p.1 in omega (arith, d), l.1)
      ]
]

run_accepted : (q : Request) (B : Book) (t : Term) (a : Answer) → run_checked q B t ≡ accepted a →
    (all_below q.units q.schedule ≡ true) × (a ≡ run B (limits q.budget) q.units q.schedule t)
unfolding run_checked
run_accepted q B t a e = elim (either (all_below q.units q.schedule)) [
  | inl p ↦ (p, sym (accepted_injective (rw (p, run_checked) at e)))
  | inr p ↦ absurd (refused_accepted (rw (p, run_checked) at e))
]

pub record Ran (read : LineReader) (published : Lengths) (q : Request) (name points : List ℕ) (x : After Answer) : Type 0 where
  pub given : AnyBook
  pub term : Term
  pub at : ℕ
  pub frame : frame_fault published q ≡ none
  pub book_read : read_any q.book ≡ accepted given
  pub line_read : read (on_day q.day given) q.line ≡ accepted term
  pub some_unit : 1 ≤ q.units
  pub few_units : q.units ≤ 8
  pub ready : Ready name points
  pub place_is : place name (read_slots points) ≡ some at
  pub units_named : all_below q.units q.schedule ≡ true
  pub answer_is : x.answer ≡ run (on_day q.day given) (limits q.budget) q.units q.schedule term
  pub points_is : x.points ≡ behind_run at q name points (on_day q.day given) term

place_accepted : (name points : List ℕ) (k : ℕ) → place_checked name points ≡ accepted k → Ready name points × (place name (read_slots points) ≡ some k)
unfolding place_checked
place_accepted name points k e =
    let (f, o) = unless_accepted (points_fault name points) (or_refuse 21 (place name (read_slots points))) k e in
    (points_ready name points f, or_accepted 21 (place name (read_slots points)) k o)

pub park_accepted : (read : LineReader) (published : Lengths) (q : Request) (name points : List ℕ) (x : After Answer) → park_by read published q name points ≡ accepted x →
    Ran read published q name points x
unfolding park_by
park_accepted read published q name points x e =
    let (f, e₁) = unless_accepted (frame_fault published q) _ x e in
    let (A, ea, e₂) = then_accepted (read_any q.book) _ x e₁ in
    let (t, et, e₃) = then_accepted (read (on_day q.day A) q.line) _ x e₂ in
    let (k, ek, e₄) = then_accepted (place_checked name points) _ x e₃ in
    let (a, er, e₅) = then_accepted (run_checked q (on_day q.day A) t) _ x e₄ in
    let (u, v) = frame_units published q f in
    let (r, p) = place_accepted name points k ek in
    let (n, w) = run_accepted q (on_day q.day A) t a er in
    let z = accepted_injective e₅ in
    record {
      given = A;
      term = t;
      at = k;
      frame = f;
      book_read = ea;
      line_read = et;
      some_unit = u;
      few_units = v;
      ready = r;
      place_is = p;
      units_named = n;
      answer_is = sym (ap (λ (y : After Answer). y.answer) z) ∙ w;
      points_is = sym (ap (λ (y : After Answer). y.points) z);
    }

-- WHAT PASSES IS ANSWERED

run_named : (q : Request) (B : Book) (t : Term) → all_below q.units q.schedule ≡ true → run_checked q B t ≡ accepted (run B (limits q.budget) q.units q.schedule t)
unfolding run_checked
run_named q B t e = rw (e, run_checked) refl

pub answered : (read : LineReader) (published : Lengths) (q : Request) (A : AnyBook) (t : Term) → frame_fault published q ≡ none → read_any q.book ≡ accepted A →
    read (on_day q.day A) q.line ≡ accepted t → all_below q.units q.schedule ≡ true →
    answer_by read published q ≡ accepted (run (on_day q.day A) (limits q.budget) q.units q.schedule t)
unfolding answer_by unless then
answered read published q A t f ea et n = rw (f, ea, et, run_named q (on_day q.day A) t n) refl

-- a run with a name answers as one without
pub park_answer : (read : LineReader) (published : Lengths) (q : Request) (name points : List ℕ) (x : After Answer) → Ran read published q name points x →
    answer_by read published q ≡ accepted x.answer
park_answer read published q name points x r =
    answered read published q r.given r.term r.frame r.book_read r.line_read r.units_named ∙ ap accepted (sym r.answer_is)

pub place_passes : (name points : List ℕ) (k : ℕ) → Ready name points → place name (read_slots points) ≡ some k → place_checked name points ≡ accepted k
unfolding place_checked unless or_refuse
place_passes name points k r e = rw (ready_points name points r, e) refl

pub park_passes : (read : LineReader) (published : Lengths) (q : Request) (name points : List ℕ) (A : AnyBook) (t : Term) (k : ℕ) → frame_fault published q ≡ none →
    read_any q.book ≡ accepted A → read (on_day q.day A) q.line ≡ accepted t → place_checked name points ≡ accepted k → all_below q.units q.schedule ≡ true →
    let B = on_day q.day A in
    park_by read published q name points ≡ accepted (record { answer = run B (limits q.budget) q.units q.schedule t; points = behind_run k q name points B t })
unfolding park_by unless then
park_passes read published q name points A t k f ea et ek n = rw (f, ea, et, ek, run_named q (on_day q.day A) t n) refl
