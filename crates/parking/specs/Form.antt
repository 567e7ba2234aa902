-- A point and its slot in the buffer (document 02, Change 11: "A run may be given a name of 1 to 16 bytes, and if it ends cut it is saved under it: .. and a copy of book
-- and day, in packed fields, with the writer filling the part of the buffer after the name"), written and read. A slot is, one behind another:
--   1 byte     the name's length; 0 if the slot is free, and then nothing else of it is read
--   16 bytes   the name, zeros behind it
--   2 bytes    the book's length
--   2 bytes    the day
--   bytes      the book as it was given
--   bits       the packed fields of the run (flat/specs/Form), then 0 to a whole byte
--   bytes      the others are written 0, and not read
-- Assumes nothing.
use Rattle.std.specs.Prelude.{Bool, true, false, List, [], ◌∷◌, ◌++◌, ℕ, ◌-◌, ◌/◌, ◌%◌, eqb, leb, length, get_or, take, drop, replicate}
use Rattle.std.proofs.Math.Option.{some}
use Rattle.paper.specs.Result.{Result, refused, accepted, Read, Reader, return, refuse, then, ◌>>=◌}
use Rattle.paper.specs.Bits.{bits_of, bytes_of}
use Rattle.paper.specs.Book.{Book, arity}
use Rattle.paper.specs.Reader.{all_zero}
use Rattle.paper.specs.Dated.{read_any, on_day}
use Rattle.paper.specs.Line.{symbol_limit}
use Rattle.paper.specs.Machine.{Limits}
use Rattle.paper.specs.Page.{read_bytes, read_number}
use Rattle.flat.specs.Form.{Saved, write_saved, read_saved}
use Rattle.flat.specs.Tested.{and, point_tested}

abbrev pub slot_length : ℕ
slot_length = 65536

abbrev pub name_length : ℕ
name_length = 16

-- the book as it was given, in the form it has, and the day as it was given, also for an undated book, which ignores it
pub record Point : Type 0 where
  pub name : List ℕ
  pub book : List ℕ
  pub day : ℕ
  pub saved : Saved

-- the limits of a run with a budget
abbrev pub limits : ℕ → Limits
limits budget = record { budget = budget; symbols = some symbol_limit }

-- WRITTEN

-- the most significant byte first
unfoldable pub two_bytes : ℕ → List ℕ
two_bytes v = v / 256 ∷ v % 256 ∷ []

-- n bytes, of which some stand in front and the others are 0
unfoldable pub filled : ℕ → List ℕ → List ℕ
filled n bs = bs ++ replicate (n - length bs) 0

-- the bytes that are read again
unfoldable pub point_bytes : Point → List ℕ
unfolding two_bytes filled bytes_of write_saved
point_bytes P =
    length P.name
    ∷ (filled name_length P.name
    ++ (two_bytes (length P.book) ++ (two_bytes P.day ++ (P.book ++ bytes_of (write_saved P.saved)))))

unfoldable pub write_point : Point → List ℕ
unfolding filled point_bytes
write_point P = filled slot_length (point_bytes P)

-- READ. Which number a refusal has is of no weight here: whatever is refused of a point, its book's faults included, is told as 20 (specs/Points), since 1 to 12 are of
-- the book and the line that are given with a call

unfoldable pub only_if : {A : Type 0} → Bool → A → Reader A
unfolding return refuse
only_if true a = return a
only_if false a = refuse 20

-- the bytes behind the book, by the book of the point's day: the fields, then 0 bits to a whole byte. The run keeps the rules (flat/specs/Meets)
unfoldable pub read_run : Book → Reader Saved
unfolding then bits_of all_zero read_saved and point_tested only_if
read_run B bytes =
    then (read_saved (arity B) (bits_of bytes)) (λ r.
    let S = r.value in
    only_if (and (all_zero (take (length r.left % 8) r.left)) (point_tested B (limits S.budget) S.parked.state)) S [])

unfoldable pub read_fields : List ℕ → ℕ → Reader Saved
unfolding then read_any on_day read_run
read_fields book day bytes = then (read_any book) (λ A. read_run (on_day day A) bytes)

-- a name may have any bytes, 0 among them
unfoldable pub read_point : Reader Point
unfolding all_zero and read_fields only_if
read_point = do
  n ← read_number 1
  bs ← read_bytes name_length
  m ← read_number 2
  day ← read_number 2
  book ← read_bytes m
  saved ← read_fields book day
  only_if (and (leb n name_length) (all_zero (drop n bs))) (record { name = take n bs; book = book; day = day; saved = saved })

-- what stands in a slot: no point, one that breaks a rule, or a point
pub data Slot : Type 0 where
  free : Slot
  broken : Slot
  holds : Point → Slot

unfoldable pub slot_of : Result (Read Point) → Slot
slot_of (refused n) = Slot.broken
slot_of (accepted r) = Slot.holds r.value

-- where the name's length is 0, nothing else is read
unfoldable pub read_slot : List ℕ → Slot
unfolding read_point slot_of
read_slot bytes = elim (eqb (get_or bytes 0 0) 0) [ true ↦ Slot.free | false ↦ slot_of (read_point bytes) ]
