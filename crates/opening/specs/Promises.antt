-- What opening the part of a slot behind the name ensures (document 02, Change 11): reading it as in parking/specs/Form gives what stands in the arrays, or is refused.
-- Assumes nothing.
use Rattle.std.specs.Prelude.{Bool, List, [], Option, Some, None, ◌≡◌, ℕ, ◌+◌, ◌%◌, ◌≤◌, length, take, drop}
use Rattle.paper.specs.Result.{accepted, Read, Reader, return, ◌>>=◌}
use Rattle.paper.specs.Bits.{bits_of}
use Rattle.paper.specs.Book.{Book}
use Rattle.paper.specs.Reader.{all_zero}
use Rattle.paper.specs.Page.{number, read_bytes, read_number}
use Rattle.flat.specs.Form.{Saved}
use Rattle.tables.specs.Layout.{arity_in, day_in}
use Rattle.tables.specs.Tables.{book_of, Tables, TablesOf}
use Rattle.units.specs.Stacks.{Store}
use Rattle.units.specs.Promises.{EightRegions}
use Rattle.parking.specs.Form.{read_run, read_fields}
use Rattle.point.specs.declared.Numbers.{Numbers}
use Rattle.point.specs.Saved.{Arrays, saved, Standing}
use Rattle.opening.specs.declared.Opened.{Opened}

-- what a point is but its name
pub record Part : Type 0 where
  pub book : List ℕ
  pub day : ℕ
  pub saved : Saved

-- `read_point` behind the name
unfoldable pub read_part : Reader Part
unfolding return ◌>>=◌ read_bytes read_number read_fields
read_part = do
  m ← read_number 2
  day ← read_number 2
  book ← read_bytes m
  saved ← read_fields book day
  return (record { book = book; day = day; saved = saved })

-- THE ARRAYS

-- the part has its first four bytes, and the arrays have their lengths; nothing depends on what they hold
pub record Room (part operators symbols order : List ℕ) (s : Store) : Type 0 where
  pub front : 4 ≤ length part
  pub few : length part ≤ 65536
  pub operators_long : length operators ≡ 4352
  pub symbols_long : length symbols ≡ 1024
  pub order_long : length order ≡ 1024
  pub regions : EightRegions s

-- BEHIND THE BOOK

-- the bits from a position on to the next whole byte are 0
abbrev pub zero_to_byte : List ℕ → ℕ → Bool
zero_to_byte bytes at = let left = drop at (bits_of bytes) in all_zero (take (length left % 8) left)

-- the table is that of the book B, which has n operators
pub record OfBook (operators : List ℕ) (n : ℕ) (B : Book) : Type 0 where
  pub bytes : List ℕ
  pub rules : List ℕ
  pub tables : Tables bytes operators rules B
  pub count : n ≡ length B.operators

-- a book of m bytes stands in the part, and the table is that of some book
pub record BookRead (part operators : List ℕ) (m n : ℕ) : Type 0 where
  pub inside : 4 + m ≤ length part
  pub book : Book
  pub is : OfBook operators n book

abbrev pub RunIs : Book → List ℕ → List ℕ → ℕ → Arrays → Option Opened → Type 0
RunIs B bytes operators m a (Some o) =
    (read_run B bytes ≡ return (saved o.numbers a) []) × Standing (arity_in operators) (length B.operators) o.numbers a × (o.book ≡ m)
RunIs B bytes operators m a None = (y : Read Saved) → read_run B bytes ≡ accepted y → ⊥

-- r answers for the bytes behind a book of m bytes
pub record RunOpened (part operators : List ℕ) (m n : ℕ) (a : Arrays) (r : Option Opened) : Type 0 where
  pub is : (B : Book) → OfBook operators n B → RunIs B (drop (4 + m) part) operators m a r

-- THE PART

-- the book's bytes, if they are m, and the day
abbrev pub book_in : List ℕ → ℕ → List ℕ
book_in part m = take m (drop 4 part)

abbrev pub day_of : List ℕ → ℕ
day_of part = number 0 (take 2 (drop 2 part))

-- the run of numbers x and arrays a, by a book of m bytes whose tables on the day are there too
pub record OpenedRun (part operators rules : List ℕ) (a : Arrays) (x : Numbers) (m : ℕ) : Type 0 where
  pub inside : 4 + m ≤ length part
  pub is : read_part part ≡ return (record { book = book_in part m; day = day_of part; saved = saved x a }) []
  pub tables : TablesOf (book_in part m) operators rules
  pub day_is : day_in rules ≡ day_of part
  pub standing : Standing (arity_in operators) (length (book_of (book_in part m) rules).operators) x a

abbrev pub OpenedIs : List ℕ → List ℕ → List ℕ → Arrays → Option Opened → Type 0
OpenedIs part operators rules a (Some o) = OpenedRun part operators rules a o.numbers o.book
OpenedIs part operators rules a None = (y : Read Part) → read_part part ≡ accepted y → ⊥

-- r answers for the part; the rest is what the arrays hold at exit
pub record OpenedAs (part operators rules : List ℕ) (a : Arrays) (r : Option Opened) : Type 0 where
  pub is : OpenedIs part operators rules a r
