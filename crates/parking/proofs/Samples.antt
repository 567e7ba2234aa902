-- Points in slots, computed: one that a run is saved as, its bytes, the same read again, slots that are free, and slots that are broken; a run parked in an all-zero buffer and resumed
-- there; its orders, counted from its first start. Assumes nothing.
use mathlib.Core.Bool.{true, false}
use mathlib.Core.List.{List, [], ◌∷◌, ◌++◌, map}
use mathlib.Core.Option.{none, some}
use mathlib.Core.Path.{◌≡◌, refl, ◌∙◌}
use Prim.Native.Nat.{ℕ}
use native.Mathlib.Omega.{arith}
use lib.ListN.{take, drop, set, replicate}
use Rattle.paper.specs.Result.{Result, accepted, refused, ◌>>=◌, repeat}
use Rattle.paper.specs.Tree.{preorder}
use Rattle.paper.specs.Book.{Term, arity}
use Rattle.paper.specs.Bits.{field}
use Rattle.paper.specs.Dated.{AnyBook, on_day}
use Rattle.paper.specs.Line.{read_line}
use Rattle.paper.specs.Machine.{Ending, longest}
use Rattle.paper.specs.Run.{Answer, run_by, run}
use Rattle.paper.specs.Enough.{carried, carried_parts, orders_alone, forks_alone}
use Rattle.paper.specs.Page.{Request, own_lengths, read_number, read_bytes, frame_fault, all_below}
use Rattle.paper.proofs.Starred.{P, PBytes, ascii, end, both, starred}
use Rattle.flat.specs.Machine.{Frame, flat_unit, flat_start}
use Rattle.flat.specs.Run.{FlatAnswer}
use Rattle.flat.specs.Parts.{kept_count, Parked, part}
use Rattle.parking.specs.Form.{slot_length, limits, Point, point_bytes, write_point, Slot, read_slot}
use Rattle.parking.specs.Points.{points_length, read_slots, put, Found, point_of, place, all_good, name_good, areas_fault, After, as_point, behind, behind_run, park_by, resume_checked, resume_of}
use Rattle.parking.specs.Change11.{Onward}
use Rattle.parking.specs.Change14.{FirstStart, carried_in}
use Rattle.parking.proofs.Buffer.{zeros}
use Rattle.parking.proofs.Slots.{Place, place_at, good_slots}
use Rattle.parking.proofs.Form.{Held, read_held}
use Rattle.parking.proofs.Checks.{Ready, zeros_ready, zeros_place, still_ready, place_passes, park_passes}
use Rattle.parking.proofs.Parking.{line_reads, point_only, point_found}
use Rattle.parking.proofs.Resuming.{resumed_is}

-- both(end, both(end, end)), the first arguments of both lent to units 1 and 2, and unit 0 waiting at the inner JOIN
abbrev line : List ℕ
line = 2 ∷ 0 ∷ 2 ∷ 0 ∷ 0 ∷ []

abbrev term : Term
term = both end (both end end)

abbrev parked : Parked
parked = record {
  entries = 7;
  state = record {
    symbols = line;
    sizes = 5 ∷ 1 ∷ 3 ∷ 1 ∷ 1 ∷ [];
    marks = false ∷ false ∷ false ∷ false ∷ true ∷ [];
    units =
        flat_unit 1 (Frame.job 2 3 1 ∷ Frame.job 0 3 1 ∷ Frame.bingo ∷ [])
        ∷ flat_unit 0 (Frame.job 1 0 0 ∷ Frame.exit 0 1 ∷ Frame.sleep ∷ [])
        ∷ flat_unit 0 (Frame.job 3 0 0 ∷ Frame.exit 0 2 ∷ Frame.sleep ∷ [])
        ∷ [];
    rewrites = 0;
    granted = 2;
    kept = 0;
    placed = 2 ∷ 1 ∷ [];
  };
}

abbrev name : List ℕ
name = ascii "Easter"

abbrev point : Point
point = as_point name PBytes 515 9 parked

-- name, book's length, day, the book, the fields
abbrev header : List ℕ
header = 6 ∷ 69 ∷ 97 ∷ 115 ∷ 116 ∷ 101 ∷ 114 ∷ 0 ∷ 0 ∷ 0 ∷ 0 ∷ 0 ∷ 0 ∷ 0 ∷ 0 ∷ 0 ∷ 0 ∷ 0 ∷ 18 ∷ 2 ∷ 3 ∷ []

abbrev fields : List ℕ
fields =
    64 ∷ 0 ∷ 0 ∷ 1 ∷ 32 ∷ 0 ∷ 0 ∷ 0 ∷ 0 ∷ 0 ∷ 0 ∷ 0 ∷ 0 ∷ 0 ∷ 0 ∷ 0 ∷ 0 ∷ 0 ∷ 0 ∷ 0 ∷ 224 ∷ 0 ∷ 0 ∷ 0 ∷ 0 ∷ 0 ∷ 0 ∷ 0 ∷ 64 ∷ 0 ∷ 0 ∷ 0 ∷ 0 ∷ 0 ∷ 0 ∷ 0 ∷ 0
    ∷ 32 ∷ 16 ∷ 0 ∷ 16 ∷ 0 ∷ 0 ∷ 72 ∷ 3 ∷ 0 ∷ 35 ∷ 32 ∷ 0 ∷ 103 ∷ 0 ∷ 12 ∷ 0 ∷ 64 ∷ 32 ∷ 0 ∷ 192 ∷ 1 ∷ 128 ∷ 24 ∷ 4 ∷ 0 ∷ 40 ∷ 2 ∷ 68 ∷ []

abbrev bytes : List ℕ
bytes = header ++ (PBytes ++ fields)

pub record Samples : Type 0 where
  -- the run is parked there, and written so
  pub saved : part P (limits 9) (replicate 7 0) (record { entries = 0; state = flat_start (arity P) 3 line }) ≡ some parked
  pub written : point_bytes point ≡ bytes
  -- it is read again, whatever stands behind it
  pub back : read_slot bytes ≡ Slot.holds point
  pub unread : read_slot (bytes ++ (1 ∷ [])) ≡ Slot.holds point
  -- a name may have 16 bytes, 0 among them
  pub long_name : read_slot (16 ∷ (replicate 16 0 ++ drop 17 bytes)) ≡ Slot.holds (as_point (replicate 16 0) PBytes 515 9 parked)
  -- free: length 0, with anything behind
  pub free : map read_slot (set bytes 0 0 ∷ (0 ∷ 9 ∷ []) ∷ []) ≡ Slot.free ∷ Slot.free ∷ []
  -- broken: length 17; a byte behind a name; the book's bytes run out; the book is refused; the fields run out; a padding bit; one unit for three; a JOIN's count; an operator that the book lacks
  pub broken : map read_slot (
      set bytes 0 17
      ∷ set bytes 7 1
      ∷ set bytes 17 1
      ∷ set bytes 21 0
      ∷ take 103 bytes
      ∷ set bytes 103 69
      ∷ set bytes 39 0
      ∷ set bytes 86 64
      ∷ set bytes 78 24
      ∷ []
      ) ≡ replicate 9 Slot.broken

pub samples : Samples
unfolding part flat_start ascii point_bytes read_slot ◌>>=◌ read_number read_bytes repeat field
samples = record { saved = refl; written = refl; back = refl; unread = refl; long_name = refl; free = refl; broken = refl }

-- NAMES AND FRAMES
abbrev other : List ℕ
other = ascii "B"

abbrev here : Slot
here = Slot.holds point

pub record Names : Type 0 where
  pub lengths : map name_good ([] ∷ name ∷ replicate 16 0 ∷ replicate 17 0 ∷ []) ≡ false ∷ true ∷ true ∷ false ∷ []
  -- a new name takes the lowest free slot, an old one its own, a ninth none
  pub places : map (λ (n : List ℕ). place n (Slot.free ∷ here ∷ Slot.free ∷ [])) (other ∷ name ∷ []) ≡ some 0 ∷ some 1 ∷ []
  pub ninth : map (λ (n : List ℕ). place n (replicate 8 here)) (other ∷ name ∷ []) ≡ none ∷ some 0 ∷ []
  -- a broken point, and a name that stands twice
  pub good : map all_good (replicate 8 Slot.free ∷ (here ∷ Slot.free ∷ []) ∷ (here ∷ Slot.broken ∷ []) ∷ (here ∷ Slot.free ∷ here ∷ []) ∷ []) ≡ true ∷ true ∷ false ∷ false ∷ []
  pub areas : map (areas_fault (record { work = 10; net = 5 }) 10 5) (1024 ∷ 1023 ∷ []) ≡ none ∷ some 16 ∷ []
  pub short_areas : map (λ (n : ℕ). areas_fault (record { work = 10; net = 5 }) n 4 0) (10 ∷ 9 ∷ []) ≡ some 15 ∷ some 15 ∷ []

pub names : Names
unfolding name_good place all_good areas_fault ascii
names = record { lengths = refl; places = refl; ninth = refl; good = refl; areas = refl; short_areas = refl }

-- A RUN PARKED IN AN ALL-ZERO BUFFER, AND RESUMED

abbrev request : Request
request = record { book = PBytes; line = line; units = 3; budget = 9; day = 515; schedule = replicate 7 0; work = 0; net = 0; output = 1024 }

abbrev first_answer : Answer
first_answer = record { ending = Ending.cut; rewrites = 0; entries = 7; granted = 2; kept = 0; term = term }

abbrev found : Found
found = record { at = 0; point = point }

abbrev blank : List ℕ
blank = zeros points_length

-- the buffer with the point in slot 0
abbrev with_point : List ℕ
with_point = put 0 (write_point point) blank

abbrev rest : List ℕ
rest = replicate 3 1 ++ (replicate 3 2 ++ replicate 20 0)

abbrev last_answer : FlatAnswer
last_answer = record { ending = Ending.finished; rewrites = 2; entries = 20; granted = 2; kept = 0; symbols = 0 ∷ [] }

abbrev cut_answer : FlatAnswer
cut_answer = record { ending = Ending.cut; rewrites = 0; entries = 8; granted = 2; kept = 0; symbols = line }

-- after one entry more, the VISIT of unit 1
abbrev parked_again : Parked
parked_again = record {
  entries = 8;
  state = record {
    symbols = line;
    sizes = 5 ∷ 1 ∷ 3 ∷ 1 ∷ 1 ∷ [];
    marks = false ∷ false ∷ false ∷ false ∷ true ∷ [];
    units =
        flat_unit 1 (Frame.job 2 3 1 ∷ Frame.job 0 3 1 ∷ Frame.bingo ∷ [])
        ∷ flat_unit 0 (Frame.job 1 1 0 ∷ Frame.exit 0 1 ∷ Frame.sleep ∷ [])
        ∷ flat_unit 0 (Frame.job 3 0 0 ∷ Frame.exit 0 2 ∷ Frame.sleep ∷ [])
        ∷ [];
    rewrites = 0;
    granted = 2;
    kept = 0;
    placed = 2 ∷ 1 ∷ [];
  };
}

module _ (points : List ℕ) where
  parks_so : let B = on_day 515 (AnyBook.undated P) in
      ◌≡◌ {A = Result (After Answer)} (accepted (record {
        answer = run B (limits 9) 3 (replicate 7 0) term;
        points = behind_run 0 request name points B term;
      })) (accepted (record { answer = first_answer; points = put 0 (write_point point) points }))
  unfolding run on_day part flat_start preorder behind
  parks_so = refl

  ends : resume_checked rest points found P ≡ accepted (record { answer = last_answer; points = put 0 (zeros slot_length) points })
  unfolding resume_checked behind kept_count
  ends = refl

  goes_on : resume_checked (1 ∷ []) points found P ≡ accepted (record { answer = cut_answer; points = put 0 (write_point (as_point name PBytes 515 9 parked_again)) points })
  unfolding resume_checked behind kept_count
  goes_on = refl

  no_unit : resume_checked (0 ∷ 3 ∷ []) points found P ≡ refused 14
  unfolding resume_checked
  no_unit = refl

-- the buffer before the run, the slot that it takes, and the buffer behind it
ready : Ready name blank
unfolding ascii
ready = zeros_ready points_length (omega arith) name (omega arith) (omega arith)

takes : place name (read_slots blank) ≡ some 0
takes = zeros_place points_length (omega arith) name

spot : Place name (read_slots blank) 0
spot = place_at name (read_slots blank) 0 (good_slots (read_slots blank) ready.good) takes

held : Held point
held = read_held bytes point samples.back

resumed_so : (schedule : List ℕ) → resume_of own_lengths 0 0 1024 schedule name with_point ≡ resume_checked schedule with_point found P
unfolding on_day
resumed_so schedule =
    resumed_is own_lengths 0 0 1024 schedule name with_point found (unfold areas_fault in refl) (still_ready 0 name name blank with_point ready (point_only name blank ready 0 spot point held refl))
    (point_found name blank ready 0 spot point held refl) (AnyBook.undated P) starred.book_read

pub record Runs : Type 0 where
  pub first : park_by read_line own_lengths request name blank ≡ accepted (record { answer = first_answer; points = with_point })
  pub there : point_of name with_point ≡ some found
  pub again : resume_of own_lengths 0 0 1024 (1 ∷ []) name with_point ≡
      accepted (record { answer = cut_answer; points = put 0 (write_point (as_point name PBytes 515 9 parked_again)) with_point })
  pub ended : resume_of own_lengths 0 0 1024 rest name with_point ≡ accepted (record { answer = last_answer; points = put 0 (zeros slot_length) with_point })
  pub unnamed : resume_of own_lengths 0 0 1024 (0 ∷ 3 ∷ []) name with_point ≡ refused 14
  -- the unbroken run
  pub unbroken : run P (limits 9) 3 (replicate 7 0 ++ rest) term ≡
      record { ending = Ending.finished; rewrites = 2; entries = 20; granted = 2; kept = 0; term = end }

pub runs : Runs
runs = record {
  first =
      park_passes read_line own_lengths request name blank (AnyBook.undated P) term 0 (unfold frame_fault in refl) starred.book_read (unfold read_line on_day in refl)
      (place_passes name blank 0 ready takes) (unfold all_below in refl)
      ∙ parks_so blank;
  there = point_found name blank ready 0 spot point held refl;
  again = resumed_so (1 ∷ []) ∙ goes_on with_point;
  ended = resumed_so rest ∙ ends with_point;
  unnamed = resumed_so (0 ∷ 3 ∷ []) ∙ no_unit with_point;
  unbroken = unfold run in refl;
}

-- ITS ORDERS, COUNTED FROM ITS FIRST START (Change 14)
pub record Orders : Type 0 where
  pub start : FirstStart own_lengths name with_point
  -- S is 17 and F is 2; seven orders were carried out before the resumption, and 20 in all
  pub of_one : (orders_alone P 9 term 17 ≡ 17) × (forks_alone P 9 term 17 ≡ 2)
  pub before : carried_in request P term (replicate 7 0 ∷ []) ≡ 7
  pub over_all : carried_in request P term (replicate 7 0 ∷ rest ∷ []) ≡ 20

pub orders : Orders
unfolding carried_parts longest carried run_by run
orders = record {
  start = record {
    read = read_line;
    reads = line_reads;
    asked = request;
    small = omega arith;
    points = blank;
    after = record { answer = first_answer; points = with_point };
    ran = runs.first;
    cut = refl;
    schedules = [];
    between = Onward.now with_point;
  };
  of_one = (refl, refl);
  before = refl;
  over_all = refl;
}
