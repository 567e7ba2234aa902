-- The entry points of a run: which definition their answers equal, and what becomes of the lent buffers (document 01, 'What is checked where', 'How a
-- run ends', 'What a reviewer will try, in order'; document 02, Changes 1 to 3, 5, 8 to 10 and 14). Assumes nothing.
use Rattle.std.specs.Prelude.{Ok, Err, true, List, [], ◌++◌, ◌≡◌, ℕ, ◌+◌, ◌*◌, ◌≤◌, length, drop, replicate}
use Rattle.std.specs.Prelude.{Result as Checked}
use Rattle.std.proofs.Math.Option.{some}
use Rattle.paper.specs.Result.{Result, refused, accepted}
use Rattle.paper.specs.Tree.{preorder}
use Rattle.paper.specs.Book.{Term, Book}
use Rattle.paper.specs.Dated.{AnyBook, read_any, on_day}
use Rattle.paper.specs.Line.{read_line}
use Rattle.paper.specs.Text.{read_text}
use Rattle.paper.specs.Reduction.{rewrites, Reduces}
use Rattle.paper.specs.Machine.{Ending, in_force, start}
use Rattle.paper.specs.Run.{Answer, run, moments}
use Rattle.paper.specs.OneUnit.{alone, Grants, Accounted}
use Rattle.paper.specs.Demand3.{Demand3, Throughout}
use Rattle.paper.specs.Change10.{Change10}
use Rattle.paper.specs.Enough.{carried, orders_alone, forks_alone, Enough}
use Rattle.paper.specs.Idle.{Queued, PicksLongest, WithPast, Helps}
use Rattle.paper.specs.Page.{Request, Lengths, LineReader, all_below, answer_by}
use Rattle.refusal.specs.declared.Refusal.{Refusal}
use Rattle.refusal.specs.Numbers.{number}
use Rattle.entry.specs.State.{limited}
use Rattle.run.specs.Promises.{ending}
use Rattle.run.specs.declared.Run as C
use Rattle.engine.specs.declared.Form as F

-- the published lengths of the work area, eight stacks of 1,026 frames of three bytes, and of the net's area, 3,840 bytes
abbrev pub published : Lengths
published = record { work = 24624; net = 3840 }

-- ANSWERS

-- what an accepted run answers: ending (its number is ending_number of the paper's page), rewrites made, entries used, FORKs granted, FORKs kept
-- (those that found nobody idle), the present term's length
pub record Values : Type 0 where
  pub ending : Ending
  pub rewrites : ℕ
  pub entries : ℕ
  pub granted : ℕ
  pub kept : ℕ
  pub length : ℕ

-- the values of the code's run
abbrev pub run_values : C.Run → Values
run_values r = record {
  ending = ending r.ending;
  rewrites = r.rewrites;
  entries = r.entries;
  granted = r.granted;
  kept = r.kept;
  length = r.length;
}

-- the code's answer: its run, or why it refuses
abbrev pub Reply : Type 0
Reply = Checked C.Run Refusal

-- document 01's number or values for each case of it
abbrev pub values : Reply → Result Values
values (Err e) = refused (number e)
values (Ok r) = accepted (run_values r)

-- and of the definition's
abbrev pub values_of : Result Answer → Result Values
values_of (refused k) = refused k
values_of (accepted A) =
    accepted (record {
      ending = A.ending;
      rewrites = A.rewrites;
      entries = A.entries;
      granted = A.granted;
      kept = A.kept;
      length = length (preorder A.term);
    })

-- THE ENTRY POINTS

-- how what stands where the term stands is read
abbrev pub reader : F.Form → LineReader
reader F.Form.Term = read_line
reader F.Form.Text = read_text

-- of the three buffers that are lent to be written, only their lengths are asked with
abbrev pub request : List ℕ → List ℕ → ℕ → ℕ → ℕ → List ℕ → List ℕ → List ℕ → List ℕ → Request
request book line units budget day schedule work net output = record {
  book = book;
  line = line;
  units = units;
  budget = budget;
  day = day;
  schedule = schedule;
  work = length work;
  net = length net;
  output = length output;
}

-- what holds of the answer A of a run by the rules from the term, however the two were read
pub record RunHolds (rules : Book) (term : Term) (units budget : ℕ) (schedule : List ℕ) (A : Answer) : Type 0 where
  pub is : A ≡ run rules (limited budget) units schedule term
  -- demand 3 of this run, whole
  pub demand_3 : Demand3 in_force rules (limited budget) units schedule term
  -- work that an idle unit takes, unit 0 at its JOIN included, lies above what it waited at; a finished run has left nothing to do
  pub helps : Helps in_force rules (limited budget) units schedule term
  -- in each of its states a unit is idle exactly if it stands in the queue, once; and a FORK there would take the unit that has been idle longest
  pub queued : Throughout Queued (start units term) (moments rules (limited budget) units schedule term)
  pub picks : WithPast PicksLongest (start units term) [] (moments rules (limited budget) units schedule term)
  -- a posting: term and rewrites of a finished run are those of reduction one after the other
  pub posting : A.ending ≡ Ending.finished → Reduces rules rewrites term A.rewrites A.term
  -- FORKs granted in a finished run are at most the FORK orders of a one-unit run without symbol limit
  pub grants : A.ending ≡ Ending.finished → Grants rules budget term A
  -- every FORK accounted for: in a finished run grants and kept together are exactly the FORKs of a one-unit run without symbol limit
  pub accounted : A.ending ≡ Ending.finished → Accounted rules budget term A
  -- finished parts aren't walked again: what is marked has nothing left to do, no order works in it, and VISIT of it is dropped
  pub change_10 : Change10 in_force rules (limited budget) units schedule term
  -- If the one-unit run without symbol limit finishes within the budget, over some n entries, at most S + 4 × F orders are carried out under any schedule, so S + 4 × F
  -- rounds, each naming every unit, never end cut; also for a point that a run saved, counted from its first start. Of this schedule it is at most S + 3 × F.
  pub enough : (n : ℕ) → (alone rules budget term n).ending ≡ Ending.finished → Enough rules budget term n in_force (some 1024) units
  pub sharp : (n : ℕ) → (alone rules budget term n).ending ≡ Ending.finished →
      carried in_force rules (limited budget) units schedule term ≤ orders_alone rules budget term n + 3 * forks_alone rules budget term n
  -- The papers leave free which ending comes where one order of units ends full and another finishes: it is that of this schedule. Whichever
  -- comes, these hold.
  pub allowed : A.rewrites ≤ budget
  pub used : A.entries ≤ length schedule
  -- FORKs granted and FORKs that found nobody idle are together at most the entries used, so neither count can pass them
  pub forks_within : A.granted + A.kept ≤ A.entries
  pub fits : length (preorder A.term) ≤ 1024

-- by either reader
module _ (read : LineReader) (book line : List ℕ) (units budget day : ℕ) (schedule work net output : List ℕ) where
  abbrev pub answered_by : Result Answer
  answered_by = answer_by read published (request book line units budget day schedule work net output)

  -- A is the answer of a run by the book that was read, in its form, with the rules that stand on the run's day (an undated book has the same on every
  -- day), from the term that the line is read as
  pub record RunBy (A : Answer) : Type 0 where
    pub given : AnyBook
    pub rules : Book
    pub term : Term
    pub book_read : read_any book ≡ accepted given
    pub of_day : rules ≡ on_day day given
    pub line_read : read rules line ≡ accepted term
    pub units_named : all_below units schedule ≡ true
    pub holds : RunHolds rules term units budget schedule A

  -- Book, line and schedule are lent to be read, so they are unchanged. The answer and the output are said by `answered_by`, which is asked with the
  -- lengths of work area and net alone, so nothing depends on what they held (proofs/Laws, forgets).
  pub record ReducedBy (work' net' output' : List ℕ) (r : Reply) : Type 0 where
    -- the answer is the definition's
    pub answer : values r ≡ values_of answered_by
    -- on a refusal every lent buffer is unchanged
    pub unchanged : (k : ℕ) → answered_by ≡ refused k → (work' ≡ work) × (net' ≡ net) × (output' ≡ output)
    -- after an accepted run work area and net are all zero, at their full lengths
    pub cleared : (A : Answer) → answered_by ≡ accepted A → (work' ≡ replicate (length work) 0) × (net' ≡ replicate (length net) 0)
    -- the output has the present term in front, and its other bytes as they were
    pub written : (A : Answer) → answered_by ≡ accepted A → output' ≡ preorder A.term ++ drop (length (preorder A.term)) output
    -- the answer is that of a run, of which demand 3 holds
    pub run_of : (A : Answer) → answered_by ≡ accepted A → RunBy A

-- of a line
abbrev pub answered : List ℕ → List ℕ → ℕ → ℕ → ℕ → List ℕ → List ℕ → List ℕ → List ℕ → Result Answer
answered = answered_by read_line

abbrev pub RunOf : List ℕ → List ℕ → ℕ → ℕ → ℕ → List ℕ → List ℕ → List ℕ → List ℕ → Answer → Type 0
RunOf = RunBy read_line

abbrev pub Reduced : List ℕ → List ℕ → ℕ → ℕ → ℕ → List ℕ → List ℕ → List ℕ → List ℕ → List ℕ → List ℕ → List ℕ → Reply → Type 0
Reduced = ReducedBy read_line

-- of a payee's text
abbrev pub PayeeReduced : List ℕ → List ℕ → ℕ → ℕ → ℕ → List ℕ → List ℕ → List ℕ → List ℕ → List ℕ → List ℕ → List ℕ → Reply → Type 0
PayeeReduced = ReducedBy read_text
