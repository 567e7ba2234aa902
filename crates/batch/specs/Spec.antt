-- The entry points for many lines by one book: which definition their answers equal, and what becomes of the lent buffers. The book is checked as document
-- 01's table says and told once; each line's record is that of `answer_by` for this line alone. Assumes nothing.
use Rattle.std.specs.Prelude.{List, ◌++◌, ◌≡◌, ℕ, length, drop, replicate, Result as Outcome, Ok, Err}
use Rattle.paper.specs.Result.{Result, refused, accepted, then}
use Rattle.paper.specs.Dated.{read_any}
use Rattle.paper.specs.Line.{symbol_limit, read_line}
use Rattle.paper.specs.Text.{read_text}
use Rattle.paper.specs.Run.{Answer}
use Rattle.paper.specs.Sound.{All}
use Rattle.paper.specs.Page.{Request, LineReader, frame_fault, unless, answer_by}
use Rattle.paper.specs.Writer.{concat}
use Rattle.refusal.specs.Numbers.{number}
use Rattle.refusal.specs.declared.Refusal.{Refusal}
use Rattle.engine.specs.Spec.{published, RunBy}
use Rattle.records.specs.Record.{record_of}
use Rattle.batch.specs.Lines.{whole_lines, lines_of, taken, Stop, done, stop_of}
use Rattle.batch.specs.declared.Done.{Done}
use Rattle.batch.specs.declared.Stop as S

-- ANSWERS

-- how many lines were done, how many bytes of the lines those are, how many bytes of records they got, and why no more
pub record Values : Type 0 where
  pub lines : ℕ
  pub read : ℕ
  pub written : ℕ
  pub stop : Stop

abbrev pub stop : S.Stop → Stop
stop S.Stop.End = Stop.end
stop S.Stop.Cut = Stop.cut
stop S.Stop.Room = Stop.room

-- the code's answer
abbrev pub Answered : Type 0
Answered = Outcome Done Refusal

-- the number or the values for each case of the code's answer
abbrev pub values : Answered → Result Values
values (Err e) = refused (number e)
values (Ok d) = accepted (record { lines = d.lines; read = d.read; written = d.written; stop = stop d.stop })

-- THE ENTRY POINTS

-- by either reader; of the areas only their lengths are asked with
module _ (read : LineReader) (book : List ℕ) (units budget day : ℕ) (schedule : List ℕ) (work net : ℕ) where
  -- a line is asked as with an output of 1,024 bytes
  abbrev pub asked : List ℕ → Request
  asked line = record {
    book = book;
    line = line;
    units = units;
    budget = budget;
    day = day;
    schedule = schedule;
    work = work;
    net = net;
    output = symbol_limit;
  }

  -- what it is answered by itself, and the record of that
  abbrev pub answer : List ℕ → Result Answer
  answer line = answer_by read published (asked line)

  abbrev pub line_record : List ℕ → List ℕ
  line_record line = record_of (answer line)

  -- the lines that are done, where there is so much room for records; or the refusal of the frame or of the book
  unfoldable pub done_by : List ℕ → ℕ → Result (List (List ℕ))
  unfolding unless frame_fault then read_any done whole_lines
  done_by lines room = unless (frame_fault published (asked lines)) (then (read_any book) (λ _. accepted (done line_record room (lines_of lines))))

  abbrev pub values_of : List ℕ → Result (List (List ℕ)) → Result Values
  values_of lines (refused k) = refused k
  values_of lines (accepted ls) =
      accepted (record { lines = length ls; read = taken ls; written = length (concat line_record ls); stop = stop_of lines ls })

module _ (read : LineReader) (book lines : List ℕ) (units budget day : ℕ) (schedule work net answers : List ℕ) where
  abbrev pub record_by : List ℕ → List ℕ
  record_by = line_record read book units budget day schedule (length work) (length net)

  abbrev pub lines_done : Result (List (List ℕ))
  lines_done = done_by read book units budget day schedule (length work) (length net) lines (length answers)

  -- an accepted line's answer is that of a run, of which demand 3 holds
  abbrev pub Ran : List ℕ → Type 0
  Ran line =
      (A : Answer) → answer read book units budget day schedule (length work) (length net) line ≡ accepted A →
      RunBy read book line units budget day schedule work net answers A

  -- Book, lines and schedule are lent to be read, so they are unchanged.
  pub record LinesBy (work' net' answers' : List ℕ) (r : Answered) : Type 0 where
    -- the answer is the definition's
    pub told : values r ≡ values_of read book units budget day schedule (length work) (length net) lines lines_done
    -- on the refusal of frame or book every lent buffer is unchanged
    pub unchanged : (k : ℕ) → lines_done ≡ refused k → (work' ≡ work) × (net' ≡ net) × (answers' ≡ answers)
    -- otherwise both areas are all zero, at their full lengths
    pub cleared : (ls : List (List ℕ)) → lines_done ≡ accepted ls → (work' ≡ replicate (length work) 0) × (net' ≡ replicate (length net) 0)
    -- the answers have the records of the lines done in front, and their other bytes as they were
    pub written : (ls : List (List ℕ)) → lines_done ≡ accepted ls → answers' ≡ concat record_by ls ++ drop (length (concat record_by ls)) answers
    pub runs : (ls : List (List ℕ)) → lines_done ≡ accepted ls → All Ran ls

-- of lines
abbrev pub LinesReduced : List ℕ → List ℕ → ℕ → ℕ → ℕ → List ℕ → List ℕ → List ℕ → List ℕ → List ℕ → List ℕ → List ℕ → Answered → Type 0
LinesReduced = LinesBy read_line

-- of payees' texts
abbrev pub PayeesReduced : List ℕ → List ℕ → ℕ → ℕ → ℕ → List ℕ → List ℕ → List ℕ → List ℕ → List ℕ → List ℕ → List ℕ → Answered → Type 0
PayeesReduced = LinesBy read_text
