-- What refuses a run with a name, or a resumption, that the frame, the book and the term have let pass: the buffer of points, then the schedule. Assumes nothing.
use mathlib.Core.Bool.{false}
use mathlib.Core.List.{List}
use mathlib.Core.Logic.{◌⊎◌, inl, inr}
use mathlib.Core.Option.{Option, none, some, none-ne-some, some-injective}
use mathlib.Core.Path.{◌≡◌, refl, sym, ◌∙◌, ap, subst}
use Prim.Native.Nat.{ℕ}
use native.Mathlib.Omega.{arith}
use Rattle.paper.specs.Result.{Result, refused, accepted, then}
use Rattle.paper.specs.Book.{Term, Book}
use Rattle.paper.specs.Dated.{AnyBook, read_any, on_day}
use Rattle.paper.specs.Run.{Answer}
use Rattle.paper.specs.Page.{Request, Lengths, all_below, frame_fault, unless, run_checked, LineReader}
use Rattle.paper.proofs.Readers.{refused_injective, refused_accepted}
use Rattle.paper.proofs.Tests.{either, ltb_cases}
use lib.ListN.{length}
use Rattle.parking.specs.Points.{points_length, read_slots, Found, point_of, place, all_good, name_good, points_fault, or_refuse, place_checked, find_checked, areas_fault, park_by, resume_checked, resume_of}
use Rattle.parking.specs.Change11.{PointsRefused}
use Rattle.parking.proofs.Buffer.{eight, slot_at}
use Rattle.parking.proofs.Slots.{good_slots, place_none}
use Rattle.parking.proofs.Checks.{points_ready}
use Rattle.parking.proofs.Resuming.{found_held, found_accepted}

-- a fault of the buffer, or of the name
fault_told : (name points : List ℕ) (k : ℕ) → points_fault name points ≡ some k → PointsRefused name points k
unfolding points_fault
fault_told name points k e = elim (ltb_cases (length points) points_length) [
  | inl p ↦ subst (PointsRefused name points) (some-injective _ _ (rw p.0 at e)) (PointsRefused.short p.1)
  | inr p ↦ elim (either (all_good (read_slots points))) [
    | inl g ↦ elim (either (name_good name)) [
      | inl n ↦ absurd (none-ne-some _ (rw (p.0, g, n) at e))
      | inr n ↦ subst (PointsRefused name points) (some-injective _ _ (rw (p.0, g, n) at e)) (PointsRefused.misnamed n)
    ]
    | inr g ↦ subst (PointsRefused name points) (some-injective _ _ (rw (p.0, g) at e)) (PointsRefused.broken g)
  ]
]

unless_refused : {A : Type 0} (o : Option ℕ) (x : Result A) (k : ℕ) → unless o x ≡ refused k → (o ≡ some k) ⊎ ((o ≡ none) × (x ≡ refused k))
unfolding unless
unless_refused none x k e = inr (refl, e)
unless_refused (some n) x k e = inl (ap some (refused_injective e))

or_refused : {A : Type 0} (n : ℕ) (o : Option A) (k : ℕ) → or_refuse n o ≡ refused k → (o ≡ none) × (n ≡ k)
unfolding or_refuse
or_refused n none k e = (refl, refused_injective e)
or_refused n (some a) k e = absurd (refused_accepted (sym e))

place_told : (name points : List ℕ) (k : ℕ) → place_checked name points ≡ refused k → PointsRefused name points k
unfolding place_checked
place_told name points k e = elim (unless_refused (points_fault name points) (or_refuse 21 (place name (read_slots points))) k e) [
  | inl f ↦ fault_told name points k f
  | inr f ↦
      (let (n, z) = or_refused 21 (place name (read_slots points)) k f.1 in
      let r = points_ready name points f.0 in
      subst (PointsRefused name points) z (PointsRefused.ninth (λ j l.
      let (P, q, d) = place_none name (read_slots points) (good_slots (read_slots points) r.good) n j (let a = eight points in omega (arith, a, l)) in
      (P, sym (slot_at points j l) ∙ q, d))))
]

find_told : (name points : List ℕ) (k : ℕ) → find_checked name points ≡ refused k → PointsRefused name points k
unfolding find_checked
find_told name points k e = elim (unless_refused (points_fault name points) (or_refuse 20 (point_of name points)) k e) [
  | inl f ↦ fault_told name points k f
  | inr f ↦ (let (n, z) = or_refused 20 (point_of name points) k f.1 in subst (PointsRefused name points) z (PointsRefused.unknown n))
]

-- a refusal of two checks is the first's, or the second's
then_refused : {A C : Type 0} (x : Result A) (f : A → Result C) (k : ℕ) → then x f ≡ refused k → (x ≡ refused k) ⊎ ((a : A) × (x ≡ accepted a) × (f a ≡ refused k))
unfolding then
then_refused (refused n) f k e = inl (ap refused (refused_injective e))
then_refused (accepted a) f k e = inr (a, refl, e)

module _ {C : Type 0} (g : Answer → C) where
  -- 14
  run_told : (q : Request) (B : Book) (t : Term) (k : ℕ) → then (run_checked q B t) (λ a. accepted (g a)) ≡ refused k → (k ≡ 14) × (all_below q.units q.schedule ≡ false)
  unfolding then run_checked
  run_told q B t k e = elim (either (all_below q.units q.schedule)) [
    | inl p ↦ absurd (refused_accepted (sym (rw (p, run_checked) at e)))
    | inr p ↦ (sym (refused_injective (rw (p, run_checked) at e)), p)
  ]

-- A RUN WITH A NAME: the points, whatever the schedule; then the schedule
pub park_refused : (read : LineReader) (published : Lengths) (q : Request) (name points : List ℕ) (A : AnyBook) (t : Term) → frame_fault published q ≡ none →
    read_any q.book ≡ accepted A → read (on_day q.day A) q.line ≡ accepted t → (k : ℕ) → park_by read published q name points ≡ refused k →
    PointsRefused name points k ⊎ ((k ≡ 14) × (all_below q.units q.schedule ≡ false))
unfolding park_by unless then
park_refused read published q name points A t f ea et k e = elim (then_refused (place_checked name points) _ k (rw (f, ea, et) at e)) [
  | inl p ↦ inl (place_told name points k p)
  | inr p ↦ inr (run_told _ q (on_day q.day A) t k p.2)
]

checked_told : (schedule points : List ℕ) (x : Found) (B : Book) (k : ℕ) → resume_checked schedule points x B ≡ refused k →
    (k ≡ 14) × (all_below (length x.point.saved.parked.state.units) schedule ≡ false)
unfolding resume_checked
checked_told schedule points x B k e = elim (either (all_below (length x.point.saved.parked.state.units) schedule)) [
  | inl p ↦ absurd (refused_accepted (sym (rw (p, resume_checked) at e)))
  | inr p ↦ (sym (refused_injective (rw (p, resume_checked) at e)), p)
]

-- A RESUMPTION: the points; then the schedule, by the point's units
pub resume_refused : (published : Lengths) (work net output : ℕ) (schedule name points : List ℕ) → areas_fault published work net output ≡ none → (k : ℕ) →
    resume_of published work net output schedule name points ≡ refused k → PointsRefused name points k ⊎
    ((x : Found) × (point_of name points ≡ some x) × (k ≡ 14) × (all_below (length x.point.saved.parked.state.units) schedule ≡ false))
unfolding resume_of unless
resume_refused published work net output schedule name points f k e = elim (then_refused (find_checked name points) _ k (rw f at e)) [
  | inl p ↦ inl (find_told name points k p)
  | inr p ↦
      (let (x, ef, e₁) = p in
      let (r, fx) = found_accepted name points x ef in
      elim (then_refused (read_any x.point.book) _ k e₁) [
        | inl z ↦ absurd (refused_accepted (sym z ∙ (found_held name points x fx).book_read))
        | inr z ↦ (let (a, b) = checked_told schedule points x (on_day x.point.day z.0) k z.2 in inr (x, fx, a, b))
      ])
]
