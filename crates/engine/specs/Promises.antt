-- What the functions behind the entry points ask of each other. Assumes nothing.
use Rattle.std.specs.Prelude.{Ok, Err, true, List, [], ◌≡◌, ℕ, ◌^◌, ◌≤◌, ◌<◌, length, take}
use Rattle.std.proofs.Math.Option.{Option, none, some}
use Rattle.paper.specs.Result.{refused, accepted}
use Rattle.paper.specs.Tree.{preorder}
use Rattle.paper.specs.Book.{Term, Book, arity}
use Rattle.paper.specs.Line.{read_line}
use Rattle.paper.specs.Run.{Answer}
use Rattle.paper.specs.Page.{Request, LineReader, all_below, frame_fault}
use Rattle.flat.specs.Machine.{FlatState, flat_start}
use Rattle.symbol.specs.Record.{operators}
use Rattle.tables.specs.Layout.{day_in}
use Rattle.tables.specs.Tables.{book_of, Operators, TablesOf}
use Rattle.std.specs.Prelude.{Result as Checked}
use Rattle.refusal.specs.declared.Refusal.{Refusal}
use Rattle.refusal.specs.Numbers.{number}
use Rattle.net.specs.Net.{NetOf}
use Rattle.whole.specs.declared.Limits.{Limits}
use Rattle.run.specs.declared.Run.{Run}
use Rattle.engine.specs.Spec.{published, values, values_of, RunHolds}

-- the number of the frame's refusal, by the numbers that are looked at, or 0
abbrev pub fault_number : Option ℕ → ℕ
fault_number none = 0
fault_number (some k) = k

-- what the frame's check looks at
abbrev pub frame : ℕ → ℕ → ℕ → ℕ → Request
frame units work net output =
    record { book = []; line = []; units = units; budget = 0; day = 0; schedule = []; work = work; net = net; output = output }

abbrev pub fault : ℕ → ℕ → ℕ → ℕ → ℕ
fault units work net output = fault_number (frame_fault published (frame units work net output))

-- the number of what the code answers of a frame, or 0
abbrev pub frame_number : Checked Unit Refusal → ℕ
frame_number (Ok u) = 0
frame_number (Err e) = number e

-- the run's frame is without fault, and the book no longer than any book is
pub record Framed (book : List ℕ) (units : ℕ) (work net output : List ℕ) : Type 0 where
  pub faultless : fault units (length work) (length net) (length output) ≡ 0
  pub short : length book ≤ 65536

-- the first n symbols are a term by the book
pub record Given (B : Book) (symbols : List ℕ) (n : ℕ) : Type 0 where
  pub long : length symbols ≡ 1024
  pub most : n ≤ 1024
  pub term : Term
  pub term_read : read_line B (take n symbols) ≡ accepted term

-- these are the book's tables on a day of 16 bits, and the first n symbols are a term by it
pub record Loaded (book operators rules symbols : List ℕ) (n : ℕ) : Type 0 where
  pub tables : TablesOf book operators rules
  pub day : day_in rules < 65536
  pub given : Given (book_of book rules) symbols n

-- the line is read as the term which the first n symbols are
pub record Taken (read : LineReader) (B : Book) (line symbols : List ℕ) (n : ℕ) : Type 0 where
  pub given : Given B symbols n
  pub line_read : read B line ≡ accepted given.term

abbrev pub ReadAs : LineReader → Book → List ℕ → List ℕ → Checked ℕ Refusal → Type 0
ReadAs read B line symbols (Ok n) = Taken read B line symbols n
ReadAs read B line symbols (Err e) = read B line ≡ refused (number e)

-- by every book of n operators with these arities
pub record TermRead (read : LineReader) (n : ℕ) (operators line symbols : List ℕ) (r : Checked ℕ Refusal) : Type 0 where
  pub is : (B : Book) → length B.operators ≡ n → Operators B.operators operators → ReadAs read B line symbols r
  pub long : length symbols ≡ 1024

-- A RUN by an open book

-- these are a book's operators and the net of its rules
pub record Opened (book operators net : List ℕ) : Type 0 where
  pub netted : NetOf book operators net
  pub short : length book ≤ 65536

-- there are one to eight units, each entry names one of them, the budget has 32 bits, and the work area is long enough
pub record Asked (l : Limits) (schedule : List ℕ) (work : ℕ) : Type 0 where
  pub some_units : 1 ≤ l.units
  pub few : l.units ≤ 8
  pub named : all_below l.units schedule ≡ true
  pub small : l.budget < 2 ^ 32
  pub long : published.work ≤ work

-- arrays for a run's state, whatever they hold, and scratch
pub record Lent (symbols scratch cells order : List ℕ) : Type 0 where
  pub symbols_long : length symbols ≡ 1024
  pub scratch_long : length scratch ≡ 1024
  pub cells_long : length cells ≡ 8
  pub order_long : length order ≡ 1024

-- the first state of a line's run
abbrev pub first : Book → Limits → List ℕ → FlatState
first B l line = flat_start (arity B) l.units line

-- r is the run of the line's term, and the present term is left in front of the symbols
pub record Posted (B : Book) (line : List ℕ) (l : Limits) (schedule symbols : List ℕ) (r : Run) : Type 0 where
  pub term : Term
  pub term_read : read_line B line ≡ accepted term
  pub answer : Answer
  pub holds : RunHolds B term l.units l.budget schedule answer
  pub values_are : values (Ok r) ≡ values_of (accepted answer)
  pub present : operators (take r.length symbols) ≡ preorder answer.term
  pub long : length symbols ≡ 1024
  pub most : r.length ≤ 1024
