-- What the functions behind the entry points ask of each other. Assumes nothing.
use Rattle.std.specs.Prelude.{true, List, [], ◌∷◌, ◌++◌, ◌≡◌, ℕ, ◌+◌, ◌-◌, ◌^◌, ◌≤◌, ◌<◌, length, take, drop, Result as Outcome, Ok, Err}
use Rattle.paper.specs.Result.{Result, accepted}
use Rattle.paper.specs.Book.{Term}
use Rattle.paper.specs.Line.{symbol_limit}
use Rattle.paper.specs.Run.{Answer}
use Rattle.paper.specs.Sound.{All}
use Rattle.paper.specs.Page.{LineReader, all_below}
use Rattle.paper.specs.Writer.{concat}
use Rattle.stream.specs.Promises.{WrittenAt}
use Rattle.net.specs.Layout.{day_of}
use Rattle.net.specs.Net.{book_by}
use Rattle.whole.specs.declared.Limits.{Limits}
use Rattle.records.specs.Record.{longest}
use Rattle.engine.specs.Spec.{RunHolds}
use Rattle.engine.specs.Promises.{Opened, fault}
use Rattle.batch.specs.Lines.{lines_of, taken, Stop, done}
use Rattle.batch.specs.Spec as B
use Rattle.batch.specs.declared.Done.{Done}
use Rattle.batch.specs.declared.Stop as S

-- an open book of n operators, and the frame of a run
pub record Open (book : List ℕ) (n : ℕ) (operators net : List ℕ) (l : Limits) (work : ℕ) : Type 0 where
  pub opened : Opened book operators net
  pub count : length (book_by book net).operators ≡ n
  pub faultless : fault l.units work (length net) symbol_limit ≡ 0
  pub small : l.budget < 2 ^ 32

-- the arrays that a line is given, whatever they hold
pub record Arrays (line symbols scratch : List ℕ) : Type 0 where
  pub line_long : length line ≡ 1024
  pub symbols_long : length symbols ≡ 1024
  pub scratch_long : length scratch ≡ 1024

abbrev pub Stops : List ℕ → ℕ → ℕ → Stop → Type 0
Stops lines at left Stop.end = at ≡ length lines
Stops lines at left Stop.cut = (at < length lines) × (lines_of (drop at lines) ≡ [])
Stops lines at left Stop.room = (at < length lines) × (left < longest) × (0 < length (lines_of (drop at lines)))

-- at a position, with so many bytes left: the next line's end, where it is whole and the longest record would fit; or why it isn't done
abbrev pub GoesOn : List ℕ → ℕ → ℕ → Outcome ℕ S.Stop → Type 0
GoesOn lines at left (Ok end) =
    (at + 2 ≤ end) × (end ≤ length lines) × (longest ≤ left)
    × (lines_of (drop at lines) ≡ take (end - (at + 2)) (drop (at + 2) lines) ∷ lines_of (drop end lines))
GoesOn lines at left (Err s) = Stops lines at left (B.stop s)

-- by the day of the net
module _ (read : LineReader) (book net : List ℕ) (l : Limits) (schedule : List ℕ) (work : ℕ) where
  abbrev pub answered : List ℕ → Result Answer
  answered = B.answer read book l.units l.budget (day_of net) schedule work (length net)

  abbrev pub record_in : List ℕ → List ℕ
  record_in = B.line_record read book l.units l.budget (day_of net) schedule work (length net)

  -- an accepted line's answer is that of a run
  abbrev pub RanBy : List ℕ → Type 0
  RanBy line =
      (A : Answer) → answered line ≡ accepted A →
      (t : Term) × (read (book_by book net) line ≡ accepted t) × (all_below l.units schedule ≡ true)
      × RunHolds (book_by book net) t l.units l.budget schedule A

  -- a line's record stands at a position
  pub record LineDone (line answers answers' : List ℕ) (at next : ℕ) : Type 0 where
    pub written : WrittenAt at (record_in line) answers answers' next
    pub ran : RanBy line

  -- the lines up to a position are done
  pub record Upto (lines answers₀ answers : List ℕ) (count at next : ℕ) : Type 0 where
    pub front : List (List ℕ)
    pub lines_are : lines_of lines ≡ front ++ lines_of (drop at lines)
    pub done_are :
        done record_in (length answers₀) (lines_of lines) ≡ front ++ done record_in (length answers₀ - next) (lines_of (drop at lines))
    pub counted : length front ≡ count
    pub taken_are : taken front ≡ at
    pub inside : at ≤ length lines
    pub written : WrittenAt 0 (concat record_in front) answers₀ answers next
    pub ran : All RanBy front

  -- the lines that are done
  abbrev pub those : List ℕ → ℕ → List (List ℕ)
  those lines room = done record_in room (lines_of lines)

  -- they are done, and why no more
  pub record AllDone (lines answers answers' : List ℕ) (r : Done) : Type 0 where
    pub told :
        B.values (Ok r) ≡
        B.values_of read book l.units l.budget (day_of net) schedule work (length net) lines (accepted (those lines (length answers)))
    pub written : answers' ≡ concat record_in (those lines (length answers)) ++ drop (length (concat record_in (those lines (length answers)))) answers
    pub ran : All RanBy (those lines (length answers))
