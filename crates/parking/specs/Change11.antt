-- Change 11 (document 02: "Named points to come back to"): what it says of a run with a name, of a resumption, of what refuses them, and of a run parked and resumed. That
-- it holds of all of them is proved in proofs/Parking, Resuming, Refusals and Unbroken. Assumes nothing.
use Rattle.std.specs.Prelude.{true, false, ◌≢◌, ◌≡◌, ℕ, ◌<◌, ◌^◌, length, drop, replicate}
use mathlib.Core.List.{List, [], ◌∷◌, ◌++◌, flatten as concat}
use Rattle.std.proofs.Math.Option.{none, some}
use Rattle.paper.specs.Result.{accepted}
use Rattle.paper.specs.Tree.{preorder}
use Rattle.paper.specs.Book.{Term, Book}
use Rattle.paper.specs.Dated.{AnyBook, read_any, on_day}
use Rattle.paper.specs.Line.{read_line}
use Rattle.paper.specs.Machine.{Ending}
use Rattle.paper.specs.Run.{Answer}
use Rattle.paper.specs.Page.{Request, Lengths, LineReader, answer_by}
use Rattle.paper.specs.Sound.{All}
use Rattle.flat.specs.Machine.{FlatState, unit}
use Rattle.flat.specs.Run.{FlatAnswer, flat_states, flatten}
use Rattle.flat.specs.Meets.{Meets, PointRules}
use Rattle.flat.specs.Parts.{kept_answer, Parked, part}
use Rattle.parking.specs.Form.{slot_length, Point, limits, Slot, read_slot}
use Rattle.parking.specs.Points.{points_length, slot, read_slots, Found, all_good, name_good, point_of, After, as_point, moved_on, begun, park_by, resume_of}

-- a reader whose terms a line could have, as the readers of lines and of texts are
abbrev pub Reads : LineReader → Type 0
Reads read = (B : Book) (line : List ℕ) (t : Term) → read B line ≡ accepted t → read_line B (preorder t) ≡ accepted t

-- THE BUFFER

-- points' is the buffer points with nothing changed but a slot, which is that of a name
pub record Only (at : ℕ) (name points points' : List ℕ) : Type 0 where
  pub inside : at < 8
  -- every other slot, all behind the eight, and the length are as before
  pub others : (j : ℕ) → j ≢ at → slot j points' ≡ slot j points
  pub beyond : drop points_length points' ≡ drop points_length points
  pub as_long : length points' ≡ length points
  -- "no run changes another name's point"
  pub other_names : (other : List ℕ) → other ≢ name → point_of other points' ≡ point_of other points
  -- every point keeps the rules, and no name stands twice, so no later call is refused for it
  pub good : all_good (read_slots points') ≡ true

-- A RUN WITH A NAME that is accepted
pub record Parks (read : LineReader) (published : Lengths) (q : Request) (name points : List ℕ) (x : After Answer) : Type 0 where
  -- it answers as without a name
  pub answers : answer_by read published q ≡ accepted x.answer
  pub given : AnyBook
  pub term : Term
  pub book_read : read_any q.book ≡ accepted given
  pub line_read : read (on_day q.day given) q.line ≡ accepted term
  pub at : ℕ
  pub only : Only at name points x.points
  -- "if it ends cut it is saved under it", "saving under an old name replaces it"
  pub saved : x.answer.ending ≡ Ending.cut → let B = on_day q.day given in
      (Q : Parked) × (part B (limits q.budget) q.schedule (begun B q.units term) ≡ some Q)
      × (point_of name x.points ≡ some (record { at = at; point = as_point name q.book q.day q.budget Q }))
  -- "A new run that isn't cut leaves that buffer unchanged"
  pub unchanged : x.answer.ending ≢ Ending.cut → x.points ≡ points

-- A POINT, whoever made it

-- some unit can act: it is not idle
abbrev pub Acts : FlatState → Type 0
Acts s = (v : ℕ) × (v < length s.units) × ((unit s.units v).rank ≡ 0)

-- "any other point that meets the rules merely runs without fault", "some unit always able to act": it keeps the rules, and so does each state of each run from it
pub record WithoutFault (P : Point) : Type 0 where
  pub given : AnyBook
  pub book_read : read_any P.book ≡ accepted given
  pub rules : PointRules (on_day P.day given) (limits P.saved.budget) P.saved.parked.state
  pub throughout : (schedule : List ℕ) → let B = on_day P.day given in let L = limits P.saved.budget in
      All (λ (z : FlatState). Meets B L z × Acts z) (flat_states B L schedule P.saved.parked.state)

-- A RESUMPTION that is accepted
pub record Resumes (schedule name points : List ℕ) (y : After FlatAnswer) : Type 0 where
  pub from : Found
  pub there : point_of name points ≡ some from
  pub without_fault : WithoutFault from.point
  pub only : Only from.at name points y.points
  -- "cut, its point is replaced"
  pub replaced : y.answer.ending ≡ Ending.cut → let P = from.point in
      (Q : Parked) × (part (on_day P.day without_fault.given) (limits P.saved.budget) schedule P.saved.parked ≡ some Q)
      × (point_of name y.points ≡ some (record { at = from.at; point = moved_on P Q }))
  -- "at any other ending its place is zeroed and free"
  pub freed : y.answer.ending ≢ Ending.cut →
      (slot from.at y.points ≡ replicate slot_length 0) × (read_slot (slot from.at y.points) ≡ Slot.free) × (point_of name y.points ≡ none)

-- REFUSALS by what is checked just before the schedule

-- eight points of other names stand in the buffer
abbrev pub Ninth : List ℕ → List ℕ → Type 0
Ninth name points = (j : ℕ) → j < 8 → (P : Point) × (read_slot (slot j points) ≡ Slot.holds P) × (name ≢ P.name)

pub data PointsRefused (name points : List ℕ) : ℕ → Type 0 where
  short : length points < points_length → PointsRefused name points 16
  broken : all_good (read_slots points) ≡ false → PointsRefused name points 20
  misnamed : name_good name ≡ false → PointsRefused name points 20
  -- of a resumption, and of a run
  unknown : point_of name points ≡ none → PointsRefused name points 20
  ninth : Ninth name points → PointsRefused name points 21

-- A RUN PARKED AND RESUMED

-- what may become of the buffer while a name's run is parked: the name is resumed with one schedule after another, each time cut; other names are run and resumed
pub data Onward (published : Lengths) (name : List ℕ) : List ℕ → List (List ℕ) → List ℕ → Type 0 where
  now : (points : List ℕ) → Onward published name points [] points
  resumed : (points last : List ℕ) (uss : List (List ℕ)) (work net output : ℕ) (us : List ℕ) (y : After FlatAnswer) →
      resume_of published work net output us name points ≡ accepted y → y.answer.ending ≡ Ending.cut →
      Onward published name y.points uss last → Onward published name points (us ∷ uss) last
  other_run : (points last : List ℕ) (uss : List (List ℕ)) (read : LineReader) → Reads read → (q : Request) → q.budget < 2 ^ 32 → (other : List ℕ) → name ≢ other →
      (x : After Answer) → park_by read published q other points ≡ accepted x →
      Onward published name x.points uss last → Onward published name points uss last
  other_resumed : (points last : List ℕ) (uss : List (List ℕ)) (work net output : ℕ) (us other : List ℕ) → name ≢ other → (y : After FlatAnswer) →
      resume_of published work net output us other points ≡ accepted y →
      Onward published name y.points uss last → Onward published name points uss last

abbrev pub with_schedule : Request → List ℕ → Request
with_schedule q schedule = record {
  book = q.book;
  line = q.line;
  units = q.units;
  budget = q.budget;
  day = q.day;
  schedule = schedule;
  work = q.work;
  net = q.net;
  output = q.output;
}

-- "A run parked after k entries and resumed with the rest ends exactly like the unbroken one, counts included; counts over all parts have 64 bits and stay at the highest
-- value once there": the run of q, saved, went on with the schedules uss, and is resumed with vs from the buffer last
pub record AsUnbroken (read : LineReader) (published : Lengths) (q : Request) (name : List ℕ) (uss : List (List ℕ)) (last : List ℕ) (work net output : ℕ) (vs : List ℕ) : Type 0 where
  pub answer : Answer
  pub after : After FlatAnswer
  pub unbroken : answer_by read published (with_schedule q (q.schedule ++ (concat uss ++ vs))) ≡ accepted answer
  pub resumed : resume_of published work net output vs name last ≡ accepted after
  pub same : after.answer ≡ kept_answer (flatten answer)
