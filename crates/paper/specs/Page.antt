-- The entry points (document 01, 'What is checked where' and 'The program and its page'): a request is checked in the table's order and run;
-- the program's page for a whole standard input; the writer's result for a book's bytes. Assumes nothing.
use Rattle.std.specs.Prelude.{Bool, true, false, List, [], ◌∷◌, ◌++◌, ℕ, zero, suc, ◌+◌, ◌*◌, ◌/◌, ◌%◌, eqb, ltb, length, take, drop}
use Rattle.std.proofs.Math.Option.{Option, none, some}
use Rattle.paper.specs.Result.{Result, refused, accepted, Reader, if, return, refuse, then, ◌>>=◌}
use Rattle.paper.specs.Tree.{preorder}
use Rattle.paper.specs.Book.{Term, Book}
use Rattle.paper.specs.Dated.{is_dated, read_any, write_any, on_day}
use Rattle.paper.specs.Line.{symbol_limit, read_line}
use Rattle.paper.specs.Text.{read_text}
use Rattle.paper.specs.Machine.{Ending}
use Rattle.paper.specs.Run.{Answer, run}

-- what a run is asked with: bytes, numbers, and the lengths of the three buffers that are lent to be written
pub record Request : Type 0 where
  pub book : List ℕ
  pub line : List ℕ
  pub units : ℕ
  pub budget : ℕ
  pub day : ℕ
  pub schedule : List ℕ
  pub work : ℕ
  pub net : ℕ
  pub output : ℕ

-- the published lengths of the work area and of the net's (document 02, Change 8)
pub record Lengths : Type 0 where
  pub work : ℕ
  pub net : ℕ

-- does every entry name one of the units?
unfoldable pub all_below : ℕ → List ℕ → Bool
all_below n [] = true
all_below n (e ∷ es) = elim (ltb e n) [ true ↦ all_below n es | false ↦ false ]

-- 13: units not 1 to 8; then 15: work area below its published length, then the net's area below its own; then 16: output under 1,024 bytes
unfoldable pub frame_fault : Lengths → Request → Option ℕ
frame_fault published q =
    if (eqb q.units 0) (some 13)
    (if (ltb 8 q.units) (some 13)
    (if (ltb q.work published.work) (some 15)
    (if (ltb q.net published.net) (some 15)
    (if (ltb q.output symbol_limit) (some 16) none))))

unfoldable pub unless : {A : Type 0} → Option ℕ → Result A → Result A
unless none r = r
unless (some n) r = refused n

-- a run of an accepted book and line; 14: an entry naming unit U or above, anywhere in it
unfoldable pub run_checked : Request → Book → Term → Result Answer
unfolding all_below run
run_checked q B t =
    elim (all_below q.units q.schedule) [
      | true ↦ accepted (run B (record { budget = q.budget; symbols = some symbol_limit }) q.units q.schedule t)
      | false ↦ refused 14
    ]

-- how what stands where the term stands is read, by a book: as a term, or as a payee's text
abbrev pub LineReader : Type 0
LineReader = Book → List ℕ → Result Term

-- the places of the table from top to bottom: the run's frame, the book, the term or text, the schedule. Term or text are read, and the run is made,
-- by the book of the run's day (document 02, Change 5)
unfoldable pub answer_by : LineReader → Lengths → Request → Result Answer
unfolding frame_fault unless then read_any on_day run_checked
answer_by read published q =
    unless (frame_fault published q)
    (then (read_any q.book) (λ A. let B = on_day q.day A in then (read B q.line) (λ t. run_checked q B t)))

abbrev pub answer_of : Lengths → Request → Result Answer
answer_of = answer_by read_line

abbrev pub payee_of : Lengths → Request → Result Answer
payee_of = answer_by read_text

-- The program's input

-- the number that some bytes make, the most significant first
unfoldable pub number : ℕ → List ℕ → ℕ
number n [] = n
number n (b ∷ bs) = number (n * 256 + b) bs

-- 17: the announced bytes are cut short
unfoldable pub read_bytes : ℕ → Reader (List ℕ)
unfolding return refuse
read_bytes n xs = if (eqb (length (take n xs)) n) (return (take n xs) (drop n xs)) (refuse 17 xs)

unfoldable pub read_number : ℕ → Reader ℕ
unfolding return ◌>>=◌ read_bytes number
read_number n = do
  bs ← read_bytes n
  return (number 0 bs)

-- the rest is the schedule; 17: over 32,768 bytes of it
unfoldable pub read_schedule : Reader (List ℕ)
unfolding return refuse
read_schedule xs = if (ltb 32768 (length xs)) (refuse 17 xs) (return xs [])

-- the day, which stands in the input exactly if the book's first byte is 0 (document 02, Change 5); an undated book ignores it
unfoldable pub read_day : List ℕ → Reader ℕ
unfolding return is_dated read_number
read_day book = elim (is_dated book) [ true ↦ read_number 2 | false ↦ return 0 ]

-- the program lends its own buffers, of just the lengths that are asked for
abbrev pub own_lengths : Lengths
own_lengths = record { work = 0; net = 0 }

unfoldable pub read_request : Reader Request
unfolding return ◌>>=◌ read_bytes read_number read_day read_schedule
read_request = do
  n ← read_number 2
  book ← read_bytes n
  m ← read_number 2
  line ← read_bytes m
  units ← read_number 1
  budget ← read_number 4
  day ← read_day book
  schedule ← read_schedule
  return (record { book = book; line = line; units = units; budget = budget; day = day; schedule = schedule; work = 0; net = 0; output = symbol_limit })

-- The page

abbrev pub ending_number : Ending → ℕ
ending_number Ending.finished = 0
ending_number Ending.spent = 1
ending_number Ending.full = 2
ending_number Ending.cut = 3

-- the decimal digits of a number below 10 ^ n, the last ones being ds
unfoldable pub digits : ℕ → ℕ → List ℕ → List ℕ
digits zero v ds = ds
digits (suc n) v ds = elim (ltb v 10) [ true ↦ (48 + v) ∷ ds | false ↦ digits n (v / 10) ((48 + v % 10) ∷ ds) ]

-- budget and entries have at most ten digits
unfoldable pub decimal : ℕ → List ℕ
unfolding digits
decimal v = digits 20 v []

-- fields with a space before each
unfoldable pub spaced : List ℕ → List ℕ
unfolding decimal
spaced [] = []
spaced (v ∷ vs) = 32 ∷ (decimal v ++ spaced vs)

-- a line: a word, its decimal fields, the byte 0A
unfoldable pub line : List ℕ → List ℕ → List ℕ
unfolding spaced
line word vs = word ++ (spaced vs ++ (10 ∷ []))

-- the words of the page, in ASCII
abbrev pub reduce_word : List ℕ
reduce_word = 82 ∷ 69 ∷ 68 ∷ 85 ∷ 67 ∷ 69 ∷ []

abbrev pub refused_word : List ℕ
refused_word = 114 ∷ 101 ∷ 102 ∷ 117 ∷ 115 ∷ 101 ∷ 100 ∷ []

abbrev pub end_word : List ℕ
end_word = 101 ∷ 110 ∷ 100 ∷ []

abbrev pub rewrites_word : List ℕ
rewrites_word = 114 ∷ 101 ∷ 119 ∷ 114 ∷ 105 ∷ 116 ∷ 101 ∷ 115 ∷ []

abbrev pub entries_word : List ℕ
entries_word = 101 ∷ 110 ∷ 116 ∷ 114 ∷ 105 ∷ 101 ∷ 115 ∷ []

abbrev pub granted_word : List ℕ
granted_word = 103 ∷ 114 ∷ 97 ∷ 110 ∷ 116 ∷ 101 ∷ 100 ∷ []

abbrev pub kept_word : List ℕ
kept_word = 107 ∷ 101 ∷ 112 ∷ 116 ∷ []

abbrev pub term_word : List ℕ
term_word = 116 ∷ 101 ∷ 114 ∷ 109 ∷ []

-- `kept` counts the FORKs that found nobody idle so far, in every ending (document 02, Change 2)
unfoldable pub answer_lines : Result Answer → List ℕ
unfolding line preorder
answer_lines (refused n) = line refused_word (n ∷ [])
answer_lines (accepted a) =
    line end_word (ending_number a.ending ∷ [])
    ++ (line rewrites_word (a.rewrites ∷ [])
    ++ (line entries_word (a.entries ∷ [])
    ++ (line granted_word (a.granted ∷ []) ++ (line kept_word (a.kept ∷ []) ++ line term_word (preorder a.term)))))

-- the whole page for a whole standard input
unfoldable pub page_by : LineReader → List ℕ → List ℕ
unfolding then read_request answer_by line answer_lines
page_by read input = line reduce_word (1 ∷ []) ++ answer_lines (then (read_request input) (λ r. answer_by read own_lengths r.value))

-- of the first program, and of the second
unfoldable pub page_of : List ℕ → List ℕ
unfolding page_by read_line
page_of input = page_by read_line input

unfoldable pub payee_page_of : List ℕ → List ℕ
unfolding page_by read_text
payee_page_of input = page_by read_text input

-- the writer, given a book's bytes: the book's own faults, or the written book
unfoldable pub written_of : List ℕ → Result (List ℕ)
unfolding then read_any write_any
written_of bytes = then (read_any bytes) (λ A. accepted (write_any A))
