-- The buffer of named points (document 02, Change 11: "Up to eight names, none in an all-zero buffer", "16 if the buffer is below a published length ..; then, new,
-- 20 ..; then 21 .."): what a run with a name answers, what a resumption answers, and the buffer behind each. Where a call is refused, every lent buffer keeps its bytes.
-- Assumes nothing.
use Rattle.std.specs.Prelude.{Bool, true, false, List, [], ◌∷◌, ◌++◌, map, ℕ, suc, ◌*◌, ltb, leb, length, take, drop, replicate}
use Rattle.std.proofs.Math.Option.{Option, none, some}
use Rattle.paper.specs.Result.{Result, refused, accepted, if, then}
use Rattle.paper.specs.Tree.{preorder}
use Rattle.paper.specs.Book.{Term, Book, arity}
use Rattle.paper.specs.Writer.{same}
use Rattle.paper.specs.Dated.{read_any, on_day}
use Rattle.paper.specs.Line.{symbol_limit}
use Rattle.paper.specs.Machine.{numbers_from}
use Rattle.paper.specs.Run.{Answer}
use Rattle.paper.specs.Page.{Request, Lengths, all_below, frame_fault, unless, run_checked, LineReader}
use Rattle.flat.specs.Machine.{flat_start}
use Rattle.flat.specs.Run.{FlatAnswer}
use Rattle.flat.specs.Parts.{Parked, part, resume}
use Rattle.flat.specs.Tested.{and}
use Rattle.parking.specs.Form.{slot_length, name_length, Point, limits, write_point, Slot, read_slot}

-- THE BUFFER: eight slots; what is behind them is neither read nor written

abbrev pub points_length : ℕ
points_length = 524288

unfoldable pub slot : ℕ → List ℕ → List ℕ
slot k points = take slot_length (drop (k * slot_length) points)

unfoldable pub read_slots : List ℕ → List Slot
unfolding numbers_from slot read_slot
read_slots points = map (λ k. read_slot (slot k points)) (numbers_from 0 8)

-- with other bytes in slot k
unfoldable pub put : ℕ → List ℕ → List ℕ → List ℕ
put k bytes points = take (k * slot_length) points ++ (bytes ++ drop (suc k * slot_length) points)

-- NAMES: two are one if they have the same bytes

-- a point and the number of its slot
pub record Found : Type 0 where
  pub at : ℕ
  pub point : Point

-- the point of a name among slots numbered from k up
unfoldable pub find : ℕ → List ℕ → List Slot → Option Found
unfolding same
find k name [] = none
find k name (Slot.free ∷ ss) = find (suc k) name ss
find k name (Slot.broken ∷ ss) = find (suc k) name ss
find k name (Slot.holds P ∷ ss) = elim (same name P.name) [ true ↦ some (record { at = k; point = P }) | false ↦ find (suc k) name ss ]

unfoldable pub first_free : ℕ → List Slot → Option ℕ
first_free k [] = none
first_free k (Slot.free ∷ ss) = some k
first_free k (Slot.broken ∷ ss) = first_free (suc k) ss
first_free k (Slot.holds P ∷ ss) = first_free (suc k) ss

-- in a buffer
abbrev pub point_of : List ℕ → List ℕ → Option Found
point_of name points = find 0 name (read_slots points)

-- where a run with this name is saved: in the slot that bears it, else in the lowest free one
unfoldable pub place : List ℕ → List Slot → Option ℕ
unfolding find first_free
place name ss = elim (find 0 name ss) [ none ↦ first_free 0 ss | some x ↦ some x.at ]

-- does every point keep the rules, and does no name stand twice? Otherwise a name's point would not be one
unfoldable pub all_good : List Slot → Bool
unfolding find
all_good [] = true
all_good (Slot.free ∷ ss) = all_good ss
all_good (Slot.broken ∷ ss) = false
all_good (Slot.holds P ∷ ss) = elim (find 0 P.name ss) [ none ↦ all_good ss | some x ↦ false ]

unfoldable pub name_good : List ℕ → Bool
unfolding and
name_good name = and (leb 1 (length name)) (leb (length name) name_length)

-- CHECKS

-- 16: the buffer is below its published length; then 20: a point in it, of whatever name, breaks a rule, or the name isn't 1 to 16 bytes
unfoldable pub points_fault : List ℕ → List ℕ → Option ℕ
unfolding read_slots all_good name_good
points_fault name points =
    if (ltb (length points) points_length) (some 16)
    (if (all_good (read_slots points))
    (if (name_good name) none (some 20)) (some 20))

unfoldable pub or_refuse : {A : Type 0} → ℕ → Option A → Result A
or_refuse n none = refused n
or_refuse n (some a) = accepted a

-- of a run: 21 if a ninth name is given, whatever the ending would be
unfoldable pub place_checked : List ℕ → List ℕ → Result ℕ
unfolding unless points_fault or_refuse place read_slots
place_checked name points = unless (points_fault name points) (or_refuse 21 (place name (read_slots points)))

-- of a resumption: 20 if the name is unknown
unfoldable pub find_checked : List ℕ → List ℕ → Result Found
unfolding unless points_fault or_refuse find read_slots
find_checked name points = unless (points_fault name points) (or_refuse 20 (point_of name points))

-- of a resumption, whose units are the point's: 15: work area below its published length, then the net's area below its own; then 16: output under 1,024 bytes
unfoldable pub areas_fault : Lengths → ℕ → ℕ → ℕ → Option ℕ
areas_fault published work net output =
    if (ltb work published.work) (some 15)
    (if (ltb net published.net) (some 15)
    (if (ltb output symbol_limit) (some 16) none))

-- ANSWERS

-- an answer, and the buffer of points behind it
pub record After (A : Type 0) : Type 0 where
  pub answer : A
  pub points : List ℕ

-- what a run is saved as
abbrev pub as_point : List ℕ → List ℕ → ℕ → ℕ → Parked → Point
as_point name book day budget Q = record { name = name; book = book; day = day; saved = record { budget = budget; parked = Q } }

-- a point with its run parked further on
abbrev pub moved_on : Point → Parked → Point
moved_on P Q = as_point P.name P.book P.day P.saved.budget Q

-- where a run begins
abbrev pub begun : Book → ℕ → Term → Parked
begun B units t = record { entries = 0; state = flat_start (arity B) units (preorder t) }

-- the buffer behind a run in slot k: its point if it is cut, else as it is given
unfoldable pub behind : ℕ → (Parked → Point) → List ℕ → List ℕ → Option Parked → List ℕ
behind k save points otherwise none = otherwise
behind k save points otherwise (some Q) = put k (write_point (save Q)) points

-- of a new run, by a book and from a term: "A new run that isn't cut leaves that buffer unchanged", also where its name has a point
abbrev pub behind_run : ℕ → Request → List ℕ → List ℕ → Book → Term → List ℕ
behind_run k q name points B t =
    behind k (as_point name q.book q.day q.budget) points points (part B (limits q.budget) q.schedule (begun B q.units t))

-- a run with a name: the places of the table as in `answer_by`, the points just before the schedule
unfoldable pub park_by : LineReader → Lengths → Request → List ℕ → List ℕ → Result (After Answer)
unfolding frame_fault unless then read_any on_day place_checked run_checked part flat_start preorder
park_by read published q name points =
    unless (frame_fault published q)
    (then (read_any q.book) (λ A. let B = on_day q.day A in
    then (read B q.line) (λ t.
    then (place_checked name points) (λ k.
    then (run_checked q B t) (λ a. accepted (record { answer = a; points = behind_run k q name points B t }))))))

-- of a resumption: "cut, its point is replaced, and at any other ending its place is zeroed and free"
abbrev pub behind_resumption : List ℕ → List ℕ → Found → Book → List ℕ
behind_resumption schedule points x B =
    let P = x.point in
    behind x.at (moved_on P) points (put x.at (replicate slot_length 0) points) (part B (limits P.saved.budget) schedule P.saved.parked)

-- a point's run goes on, by its book on its day; 14: an entry naming none of its units, anywhere in the schedule
unfoldable pub resume_checked : List ℕ → List ℕ → Found → Book → Result (After FlatAnswer)
unfolding all_below part resume
resume_checked schedule points x B =
    let S = x.point.saved in
    elim (all_below (length S.parked.state.units) schedule) [
      | true ↦ accepted (record { answer = resume B (limits S.budget) schedule S.parked; points = behind_resumption schedule points x B })
      | false ↦ refused 14
    ]

-- "A resumption takes only a name, buffers and the schedule": of work area, net and output the lengths
unfoldable pub resume_of : Lengths → ℕ → ℕ → ℕ → List ℕ → List ℕ → List ℕ → Result (After FlatAnswer)
unfolding areas_fault unless then find_checked read_any on_day resume_checked
resume_of published work net output schedule name points =
    unless (areas_fault published work net output)
    (then (find_checked name points) (λ x.
    then (read_any x.point.book) (λ A. resume_checked schedule points x (on_day x.point.day A))))
