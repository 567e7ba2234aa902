-- What the functions behind the page ask of each other: where the parts of an input stand, and which bytes are written where. Assumes nothing.
use Rattle.std.specs.Prelude.{Bool, List, [], ◌∷◌, ◌++◌, ◌≡◌, ℕ, ◌+◌, ◌-◌, ◌≤◌, length, get_or, take, drop, Option, Some, None, Ok, Err}
use Rattle.paper.specs.Result.{Result, refused, accepted, Read}
use Rattle.paper.specs.Dated.{is_dated}
use Rattle.paper.specs.Page.{Request, number, read_day, read_request, ending_number, decimal, line, refused_word, end_word, rewrites_word, entries_word}
use Rattle.paper.specs.Page.{granted_word, kept_word, term_word}
use Rattle.engine.specs.Spec as R
use Rattle.refusal.specs.Numbers as N
use Rattle.page.specs.declared.Parts as P

-- THE PARTS OF AN INPUT

-- a request as the program makes it
abbrev pub asked : List ℕ → List ℕ → ℕ → ℕ → ℕ → List ℕ → Request
asked book line units budget day schedule =
    record { book = book; line = line; units = units; budget = budget; day = day; schedule = schedule; work = 0; net = 0; output = 1024 }

module _ (input : List ℕ) where
  -- what the reading of the day gives, if it ends so
  abbrev pub read_day_as : Option (ℕ × ℕ) → Result (Read ℕ)
  read_day_as None = refused 17
  read_day_as (Some (d, e)) = accepted (record { value = d; left = drop e input })

  abbrev pub DayWithin : ℕ → Option (ℕ × ℕ) → Type 0
  DayWithin at None = Unit {0}
  DayWithin at (Some (d, e)) = (at ≤ e) × (e ≤ length input)

  -- the day of a book of this form, at position at
  pub record DayStands (at : ℕ) (dated : Bool) (r : Option (ℕ × ℕ)) : Type 0 where
    pub is : (book : List ℕ) → dated ≡ is_dated book → read_day book (drop at input) ≡ read_day_as r
    pub within : DayWithin at r

  -- book and line end where p says; units and budget follow, and the schedule begins where it says
  abbrev pub request_of : P.Parts → Request
  request_of p =
      asked (take (p.book - 2) (drop 2 input)) (take (p.line - (p.book + 2)) (drop (p.book + 2) input)) (get_or input p.line 0)
      (number 0 (take 4 (drop (p.line + 1) input))) p.day (drop p.schedule input)

  abbrev pub PartsWithin : P.Parts → Type 0
  PartsWithin p = (2 ≤ p.book) × (p.book + 2 ≤ p.line) × (p.line + 5 ≤ p.schedule) × (p.schedule ≤ length input)

  -- what the reading of the request gives, if its parts stand so
  abbrev pub read_by : Option P.Parts → Result (Read Request)
  read_by None = refused 17
  read_by (Some p) = accepted (record { value = request_of p; left = [] })

  abbrev pub StandWithin : Option P.Parts → Type 0
  StandWithin None = Unit {0}
  StandWithin (Some p) = PartsWithin p

  pub record PartsStand (r : Option P.Parts) : Type 0 where
    pub is : read_request input ≡ read_by r
    pub within : StandWithin r

-- WRITING

-- the digits of v stand from r on
pub record DigitsFrom (v : ℕ) (d : List ℕ) (r : ℕ) : Type 0 where
  pub start : r ≤ 20
  pub are : drop r d ≡ decimal v

-- a decimal field with the space before it
abbrev pub decimal_field : ℕ → List ℕ
decimal_field v = 32 ∷ decimal v

-- the lines of a run's values and its term
abbrev pub run_lines : R.Values → List ℕ → List ℕ
run_lines v term =
    line end_word (ending_number v.ending ∷ [])
    ++ (line rewrites_word (v.rewrites ∷ [])
    ++ (line entries_word (v.entries ∷ [])
    ++ (line granted_word (v.granted ∷ []) ++ (line kept_word (v.kept ∷ []) ++ line term_word term))))

-- the lines of the engine's answer, its term standing at the front of the output
abbrev pub lines : R.Reply → List ℕ → List ℕ
lines (Err e) output = line refused_word (N.number e ∷ [])
lines (Ok r) output = run_lines (R.run_values r) (take r.length output)

-- the answer's term fits the output and the page
abbrev pub TermFits : R.Reply → List ℕ → Type 0
TermFits (Err e) output = Unit {0}
TermFits (Ok r) output = (r.length ≤ length output) × (length output ≤ 1024)
