-- A resumption: what becomes of the buffer, and that a point which isn't broken runs without fault. Assumes nothing.
use mathlib.Core.Bool.{true}
use mathlib.Core.List.{List, [], ◌∷◌}
use mathlib.Core.Logic.{◌≢◌, inl, inr}
use mathlib.Core.Option.{Option, none, some}
use mathlib.Core.Path.{◌≡◌, refl, sym, ◌∙◌, ap, subst}
use Prim.Native.Nat.{ℕ, ◌<◌}
use native.Mathlib.Omega.{arith}
use lib.ListN.{length, set}
use Rattle.paper.specs.Result.{accepted, then}
use Rattle.paper.specs.Book.{Book}
use Rattle.paper.specs.Dated.{AnyBook, read_any, on_day}
use Rattle.paper.specs.Machine.{Ending, Limits}
use Rattle.paper.specs.Page.{Lengths, all_below, unless}
use Rattle.paper.proofs.Books.{good_book_sound}
use Rattle.paper.proofs.Dated.{day_good}
use Rattle.paper.proofs.Lists.{all_map}
use Rattle.paper.proofs.Readers.{accepted_injective, refused_accepted, then_accepted}
use Rattle.paper.proofs.Tests.{either}
use Rattle.flat.specs.Machine.{FlatState}
use Rattle.flat.specs.Rules.{Rules}
use Rattle.flat.specs.Run.{FlatAnswer, flat_states}
use Rattle.flat.specs.Meets.{Meets}
use Rattle.flat.specs.Parts.{Parked, part, resume}
use Rattle.flat.proofs.Form.{parts_counted}
use Rattle.flat.proofs.Points
use Rattle.flat.proofs.Points.{meets_throughout, point_part}
use Rattle.flat.proofs.Steps.{good_settled}
use Rattle.parking.specs.Form.{slot_length, Point, limits, write_point, Slot, read_slot}
use Rattle.parking.specs.Points.{slot, read_slots, put, Found, find, point_of, points_fault, or_refuse, find_checked, areas_fault, After, moved_on, behind, behind_resumption, resume_checked, resume_of}
use Rattle.parking.specs.Change11.{Only, Acts, WithoutFault, Resumes}
use Rattle.parking.proofs.Buffer.{zeros, length_zeros, zeros_free, put_same, eight, slot_at}
use Rattle.parking.proofs.Slots.{Open, good_slots, Place, find_at, find_place, set_gone, holds_inside}
use Rattle.parking.proofs.Form.{Held, read_held}
use Rattle.parking.proofs.Endings.{resume_cut, parked_cut}
use Rattle.parking.proofs.Checks.{Ready, points_ready, ready_points, only_put, slots_put, reaches, unless_accepted, or_accepted}
use Rattle.parking.proofs.Parking.{parts_one, point_only, point_found}

-- "any other point that meets the rules merely runs without fault"
pub held_runs : (P : Point) → Held P → WithoutFault P
held_runs P h =
    let B = on_day P.day h.given in
    let L = limits P.saved.budget in
    let g = day_good P.book h.given h.book_read P.day in
    record {
      given = h.given;
      book_read = h.book_read;
      rules = h.rules;
      throughout = λ schedule.
          all_map (λ (z : FlatState). Meets B L z × Rules B L z × Points.Acts z) (λ (z : FlatState). Meets B L z × Acts z) (λ z t. (t.0, t.2)) (flat_states B L schedule P.saved.parked.state)
          (meets_throughout B (good_book_sound B g) (good_settled B g) L P.saved.parked.state h.rules.meets schedule);
    }

pub runs_without_fault : (bytes : List ℕ) (P : Point) → read_slot bytes ≡ Slot.holds P → WithoutFault P
runs_without_fault bytes P e = held_runs P (read_held bytes P e)

-- a point that is found keeps the rules
pub found_held : (name points : List ℕ) (x : Found) → point_of name points ≡ some x → Held x.point
found_held name points x e =
    let (p, n) = find_at name (read_slots points) x e in
    let l : x.at < 8 = (let a = holds_inside (read_slots points) x.at x.point p in let b = eight points in omega (arith, a, b)) in
    read_held (slot x.at points) x.point (sym (slot_at points x.at l) ∙ p)

-- a run from it that is cut again leaves a point that keeps them
pub again_held : (P : Point) (h : Held P) (us : List ℕ) (Q : Parked) → part (on_day P.day h.given) (limits P.saved.budget) us P.saved.parked ≡ some Q →
    Held (moved_on P Q)
again_held P h us Q e =
    let B = on_day P.day h.given in
    let L = limits P.saved.budget in
    record {
      some_name = h.some_name;
      short_name = h.short_name;
      given = h.given;
      book_read = h.book_read;
      rules = point_part B (day_good P.book h.given h.book_read P.day) L us P.saved.parked Q h.rules e;
      budget = h.budget;
      counted = parts_counted B L (us ∷ []) P.saved.parked Q h.counted (parts_one B L us P.saved.parked Q e);
    }

-- A RESUMPTION, WHERE NOTHING OF THE FRAME IS MISSING, is the check of its schedule and the run
pub resumed_is : (published : Lengths) (work net output : ℕ) (schedule name points : List ℕ) (x : Found) → areas_fault published work net output ≡ none → Ready name points →
    point_of name points ≡ some x → (A : AnyBook) → read_any x.point.book ≡ accepted A →
    resume_of published work net output schedule name points ≡ resume_checked schedule points x (on_day x.point.day A)
unfolding resume_of unless find_checked or_refuse then
resumed_is published work net output schedule name points x a r f A e = rw (a, ready_points name points r, f, e) refl

pub record Resumed (schedule name points : List ℕ) (y : After FlatAnswer) : Type 0 where
  pub found : Found
  pub held : Held found.point
  pub ready : Ready name points
  pub there : point_of name points ≡ some found
  pub units_named : all_below (length found.point.saved.parked.state.units) schedule ≡ true
  pub answer_is : y.answer ≡ resume (on_day found.point.day held.given) (limits found.point.saved.budget) schedule found.point.saved.parked
  pub points_is : y.points ≡ behind_resumption schedule points found (on_day found.point.day held.given)

pub checked_accepted : (schedule points : List ℕ) (x : Found) (B : Book) (y : After FlatAnswer) → resume_checked schedule points x B ≡ accepted y →
    (all_below (length x.point.saved.parked.state.units) schedule ≡ true)
    × (y.answer ≡ resume B (limits x.point.saved.budget) schedule x.point.saved.parked)
    × (y.points ≡ behind_resumption schedule points x B)
unfolding resume_checked
checked_accepted schedule points x B y e = elim (either (all_below (length x.point.saved.parked.state.units) schedule)) [
  | inl p ↦ (let z = accepted_injective (rw (p, resume_checked) at e) in (p, sym (ap (λ (w : After FlatAnswer). w.answer) z), sym (ap (λ (w : After FlatAnswer). w.points) z)))
  | inr p ↦ absurd (refused_accepted (rw (p, resume_checked) at e))
]

pub found_accepted : (name points : List ℕ) (x : Found) → find_checked name points ≡ accepted x → Ready name points × (point_of name points ≡ some x)
unfolding find_checked
found_accepted name points x e =
    let (f, o) = unless_accepted (points_fault name points) (or_refuse 20 (find 0 name (read_slots points))) x e in
    (points_ready name points f, or_accepted 20 (find 0 name (read_slots points)) x o)

pub resume_accepted : (published : Lengths) (work net output : ℕ) (schedule name points : List ℕ) (y : After FlatAnswer) →
    resume_of published work net output schedule name points ≡ accepted y → Resumed schedule name points y
unfolding resume_of
resume_accepted published work net output schedule name points y e =
    let (a, e₁) = unless_accepted (areas_fault published work net output) _ y e in
    let (x, ef, e₂) = then_accepted (find_checked name points) _ y e₁ in
    let (A, ea, e₃) = then_accepted (read_any x.point.book) _ y e₂ in
    let (r, f) = found_accepted name points x ef in
    let h = found_held name points x f in
    let same : A ≡ h.given = accepted_injective (sym ea ∙ h.book_read) in
    let (n, v, w) = checked_accepted schedule points x (on_day x.point.day h.given) y
    (subst (λ (Z : AnyBook). resume_checked schedule points x (on_day x.point.day Z) ≡ accepted y) same e₃) in
    record { found = x; held = h; ready = r; there = f; units_named = n; answer_is = v; points_is = w }

module _ (schedule name points : List ℕ) (y : After FlatAnswer) (r : Resumed schedule name points y) where
  abbrev P : Point
  P = r.found.point

  abbrev k : ℕ
  k = r.found.at

  abbrev B : Book
  B = on_day P.day r.held.given

  abbrev L : Limits
  L = limits P.saved.budget

  abbrev saved_as : Parked → Point
  saved_as = moved_on P

  bears : name ≡ P.name
  bears = (find_at name (read_slots points) r.found r.there).1

  spot : Place name (read_slots points) k
  spot = find_place name (read_slots points) r.found (good_slots (read_slots points) r.ready.good) r.there

  opens : Open name (read_slot (zeros slot_length))
  opens = subst (Open name) (sym zeros_free) tt

  abbrev behind_it : Option Parked → List ℕ
  behind_it = behind k saved_as points (put k (zeros slot_length) points)

  pub resume_only : Only k name points y.points
  resume_only = subst (Only k name points) (sym r.points_is) (go (part B L schedule P.saved.parked) refl)
    where
      go : (o : Option Parked) → part B L schedule P.saved.parked ≡ o → Only k name points (behind_it o)
      go none e = unfold behind in only_put name points r.ready k spot (zeros slot_length) (length_zeros slot_length) opens
      go (some Q) e = unfold behind in point_only name points r.ready k spot (saved_as Q) (again_held P r.held schedule Q e) bears

  -- "cut, its point is replaced"
  pub record ParkedAgain : Type 0 where
    pub parked : Parked
    pub is_part : part B L schedule P.saved.parked ≡ some parked
    pub held : Held (saved_as parked)
    pub there : point_of name y.points ≡ some (record { at = k; point = saved_as parked })

  pub replaced : y.answer.ending ≡ Ending.cut → ParkedAgain
  replaced c =
      let (Q, e) = resume_cut B L schedule P.saved.parked (sym (ap (λ (z : FlatAnswer). z.ending) r.answer_is) ∙ c) in
      let h = again_held P r.held schedule Q e in
      let is : y.points ≡ put k (write_point (saved_as Q)) points = r.points_is ∙ ap behind_it e ∙ (unfold behind in refl) in
      record {
        parked = Q;
        is_part = e;
        held = h;
        there = ap (point_of name) is ∙ point_found name points r.ready k spot (saved_as Q) h bears;
      }

  -- "at any other ending its place is zeroed and free"
  pub record Freed : Type 0 where
    pub zeroed : slot k y.points ≡ zeros slot_length
    pub free : read_slot (slot k y.points) ≡ Slot.free
    pub gone : point_of name y.points ≡ none

  pub ended_freed : y.answer.ending ≢ Ending.cut → Freed
  ended_freed d =
      let bytes = zeros slot_length in
      let long = length_zeros slot_length in
      let is : y.points ≡ put k bytes points = r.points_is ∙ go (part B L schedule P.saved.parked) refl in
      let zeroed : slot k y.points ≡ bytes = ap (slot k) is ∙ put_same k bytes points long (reaches name points r.ready k spot bytes long opens) in
      record {
        zeroed = zeroed;
        free = ap read_slot zeroed ∙ zeros_free;
        gone =
            ap (point_of name) is
            ∙ ap (find 0 name) (slots_put name points r.ready k spot bytes long opens ∙ ap (set (read_slots points) k) zeros_free)
            ∙ set_gone name (read_slots points) k spot.inside spot.alone;
      }
    where
      go : (o : Option Parked) → part B L schedule P.saved.parked ≡ o → behind_it o ≡ put k (zeros slot_length) points
      go none e = unfold behind in refl
      go (some Q) e = absurd (d (ap (λ (z : FlatAnswer). z.ending) r.answer_is ∙ parked_cut B L schedule P.saved.parked Q e))

-- WHAT CHANGE 11 SAYS OF IT
pub resumes : (published : Lengths) (work net output : ℕ) (schedule name points : List ℕ) (y : After FlatAnswer) →
    resume_of published work net output schedule name points ≡ accepted y → Resumes schedule name points y
unfolding held_runs
resumes published work net output schedule name points y e =
    let r = resume_accepted published work net output schedule name points y e in
    record {
      from = r.found;
      there = r.there;
      without_fault = held_runs r.found.point r.held;
      only = resume_only schedule name points y r;
      replaced = λ c. let p = replaced schedule name points y r c in (p.parked, p.is_part, p.there);
      freed = λ d. let f = ended_freed schedule name points y r d in (f.zeroed, f.free, f.gone);
    }
