-- The exported functions: a refusal's number or 0, and the values of an answer as numbers in an array (document 01, 'What is checked where': a
-- refusal answers its number with zeros for all else; document 02, Changes 12 to 14). Assumes nothing.
use Rattle.std.specs.Prelude.{List, [], ◌∷◌, ◌≡◌, ℕ, ℤ, pos, length, Result as Outcome, Ok, Err}
use Rattle.std.proofs.Math.Option.{Option, none, some}
use Rattle.paper.specs.Result.{Result, refused, accepted}
use Rattle.paper.specs.Line.{read_line}
use Rattle.paper.specs.Text.{read_text}
use Rattle.paper.specs.Page.{LineReader, ending_number}
use Rattle.paper.specs.Strict.{Verdict, strict_number, strict_of}
use Rattle.engine.specs.Spec as R
use Rattle.batch.specs.Lines.{stop_number}
use Rattle.batch.specs.Spec as B
use Rattle.bound.specs.Spec as N
use Rattle.fees.specs.Fees.{charge}
use Rattle.fees.specs.Spec as F
use Rattle.refusal.specs.Numbers.{number}
use Rattle.refusal.specs.declared.Refusal.{Refusal}
use Rattle.points.specs.Spec as P
use Rattle.settlement.specs.Spec as S
use Rattle.writer.specs.Spec.{Answers}

-- the refusal's number, 0 if there is none
abbrev pub refusal : {A : Type 0} → Result A → ℕ
refusal (refused k) = k
refusal (accepted v) = 0

-- ending, rewrites, entries, granted, kept, length
abbrev pub value_numbers : Result R.Values → List ℕ
value_numbers (refused k) = 0 ∷ 0 ∷ 0 ∷ 0 ∷ 0 ∷ 0 ∷ []
value_numbers (accepted v) = ending_number v.ending ∷ v.rewrites ∷ v.entries ∷ v.granted ∷ v.kept ∷ v.length ∷ []

-- by either reader
module _ (read : LineReader) (book line : List ℕ) (units budget day : ℕ) (schedule work net output : List ℕ) where
  pub record ReducedInNumbersBy (work' net' output' answer' : List ℕ) (r : ℕ) : Type 0 where
    -- the definition's number and values
    pub number : r ≡ refusal (R.values_of (R.answered_by read book line units budget day schedule work net output))
    pub values : answer' ≡ value_numbers (R.values_of (R.answered_by read book line units budget day schedule work net output))
    -- what becomes of the lent buffers, clause by clause
    pub answer : R.Reply
    pub buffers : R.ReducedBy read book line units budget day schedule work net output work' net' output' answer

-- of a line
abbrev pub ReducedInNumbers : List ℕ → List ℕ → ℕ → ℕ → ℕ → List ℕ → List ℕ → List ℕ → List ℕ → List ℕ → List ℕ → List ℕ → List ℕ → ℕ → Type 0
ReducedInNumbers = ReducedInNumbersBy read_line

-- of a payee's text
abbrev pub PayeeInNumbers : List ℕ → List ℕ → ℕ → ℕ → ℕ → List ℕ → List ℕ → List ℕ → List ℕ → List ℕ → List ℕ → List ℕ → List ℕ → ℕ → Type 0
PayeeInNumbers = ReducedInNumbersBy read_text

-- RUNS WITH A NAME: of a line or text that is given, and of one that was parked

module _ (read : LineReader) (book line : List ℕ) (units budget day : ℕ) (schedule name work net points output : List ℕ) where
  pub record ParkedInNumbersBy (work' net' points' output' answer' : List ℕ) (r : ℕ) : Type 0 where
    -- the definition's number and values
    pub number : r ≡ refusal (R.values_of (P.told (P.parked read book line units budget day schedule name work net points output)))
    pub values : answer' ≡ value_numbers (R.values_of (P.told (P.parked read book line units budget day schedule name work net points output)))
    -- what becomes of the lent buffers, clause by clause
    pub answer : R.Reply
    pub buffers : P.ParkedBy read book line units budget day schedule name work net points output work' net' points' output' answer

abbrev pub ParkedInNumbers : List ℕ → List ℕ → ℕ → ℕ → ℕ → List ℕ → List ℕ → List ℕ → List ℕ → List ℕ → List ℕ → List ℕ → List ℕ → List ℕ → List ℕ → List ℕ → ℕ → Type 0
ParkedInNumbers = ParkedInNumbersBy read_line

abbrev pub PayeeParkedInNumbers : List ℕ → List ℕ → ℕ → ℕ → ℕ → List ℕ → List ℕ → List ℕ → List ℕ → List ℕ → List ℕ → List ℕ → List ℕ → List ℕ → List ℕ → List ℕ → ℕ → Type 0
PayeeParkedInNumbers = ParkedInNumbersBy read_text

pub record ResumedInNumbers (name schedule work net points output work' net' points' output' answer' : List ℕ) (r : ℕ) : Type 0 where
  pub number : r ≡ refusal (P.flat_values_of (P.told (P.resumed name schedule work net points output)))
  pub values : answer' ≡ value_numbers (P.flat_values_of (P.told (P.resumed name schedule work net points output)))
  pub answer : R.Reply
  pub buffers : P.ResumedBy name schedule work net points output work' net' points' output' answer

-- MANY LINES: lines done, bytes of the lines, bytes of records, the stop's number
abbrev pub done_numbers : Result B.Values → List ℕ
done_numbers (refused k) = 0 ∷ 0 ∷ 0 ∷ 0 ∷ []
done_numbers (accepted v) = v.lines ∷ v.read ∷ v.written ∷ stop_number v.stop ∷ []

-- by either reader
module _ (read : LineReader) (book lines : List ℕ) (units budget day : ℕ) (schedule work net answers : List ℕ) where
  abbrev pub told : Result B.Values
  told =
      B.values_of read book units budget day schedule (length work) (length net) lines
      (B.lines_done read book lines units budget day schedule work net answers)

  pub record LinesInNumbersBy (work' net' answers' done' : List ℕ) (r : ℕ) : Type 0 where
    -- the definition's number and values
    pub number : r ≡ refusal told
    pub values : done' ≡ done_numbers told
    -- what becomes of the lent buffers, clause by clause
    pub answer : B.Answered
    pub buffers : B.LinesBy read book lines units budget day schedule work net answers work' net' answers' answer

abbrev pub LinesInNumbers : List ℕ → List ℕ → ℕ → ℕ → ℕ → List ℕ → List ℕ → List ℕ → List ℕ → List ℕ → List ℕ → List ℕ → List ℕ → ℕ → Type 0
LinesInNumbers = LinesInNumbersBy read_line

abbrev pub PayeesInNumbers : List ℕ → List ℕ → ℕ → ℕ → ℕ → List ℕ → List ℕ → List ℕ → List ℕ → List ℕ → List ℕ → List ℕ → List ℕ → ℕ → Type 0
PayeesInNumbers = LinesInNumbersBy read_text

-- HOW LONG A SCHEDULE SUFFICES (document 02, Change 14): the one-unit run's ending, S and F. The two are known if the ending's number is 0, otherwise they are zeros.
abbrev pub bound_numbers : Result N.Bound → List ℕ
bound_numbers (refused k) = 0 ∷ 0 ∷ 0 ∷ []
bound_numbers (accepted (N.Bound.unknown e)) = ending_number e ∷ 0 ∷ 0 ∷ []
bound_numbers (accepted (N.Bound.told s f)) = 0 ∷ s ∷ f ∷ []

-- by either reader
module _ (read : LineReader) (book line : List ℕ) (budget day : ℕ) (work net : List ℕ) where
  pub record BoundInNumbersBy (work' net' answer' : List ℕ) (r : ℕ) : Type 0 where
    -- the definition's number and values
    pub number : r ≡ refusal (N.bound_of read book line budget day work net)
    pub values : answer' ≡ bound_numbers (N.bound_of read book line budget day work net)
    -- what they say, and what becomes of the lent buffers, clause by clause
    pub answer : N.Reply
    pub buffers : N.BoundBy read book line budget day work net work' net' answer

abbrev pub BoundInNumbers : List ℕ → List ℕ → ℕ → ℕ → List ℕ → List ℕ → List ℕ → List ℕ → List ℕ → ℕ → Type 0
BoundInNumbers = BoundInNumbersBy read_line

abbrev pub PayeeBoundInNumbers : List ℕ → List ℕ → ℕ → ℕ → List ℕ → List ℕ → List ℕ → List ℕ → List ℕ → ℕ → Type 0
PayeeBoundInNumbers = BoundInNumbersBy read_text

-- the writer's answer
abbrev pub written_refusal : Outcome ℕ Refusal → ℕ
written_refusal (Err e) = number e
written_refusal (Ok n) = 0

abbrev pub written_length : Outcome ℕ Refusal → ℕ
written_length (Err e) = 0
written_length (Ok n) = n

pub record WroteInNumbers (book output output' length' : List ℕ) (r : ℕ) : Type 0 where
  pub answer : Outcome ℕ Refusal
  pub is : Answers book output output' answer
  pub number : r ≡ written_refusal answer
  pub length : length' ≡ written_length answer ∷ []

-- THE CHARGE: the fee, 0 if there is none
abbrev pub fee_number : Result ℤ → ℤ
fee_number (refused k) = pos 0
fee_number (accepted f) = f

pub record ChargedInNumbers (term table : List ℕ) (amount : ℤ) (shares : List ℕ) (parts parts' fee' : List ℤ) (r : ℕ) : Type 0 where
  -- the definition's number and fee
  pub number : r ≡ refusal (F.fee_of (charge term table amount shares))
  pub fee : fee' ≡ fee_number (F.fee_of (charge term table amount shares)) ∷ []
  -- what becomes of the lent array, clause by clause
  pub answer : Outcome ℤ Refusal
  pub buffers : F.ChargedBy term table amount shares parts parts' answer

-- A RUN AND ITS CHARGE: the run's numbers, the fee, and 1 if there is one
abbrev pub run_numbers : Result S.Told → List ℕ
run_numbers (refused k) = value_numbers (refused k)
run_numbers (accepted t) = value_numbers (accepted t.run)

abbrev pub posted_fee : Result S.Told → Option ℤ
posted_fee (refused k) = none
posted_fee (accepted t) = t.fee

abbrev pub fee_or_zero : Option ℤ → ℤ
fee_or_zero none = pos 0
fee_or_zero (some f) = f

abbrev pub one_if_some : Option ℤ → ℕ
one_if_some none = 0
one_if_some (some f) = 1

pub record SettledNumbers (t : Result S.Told) (answer' : List ℕ) (fee' : List ℤ) (charged' : List ℕ) (r : ℕ) : Type 0 where
  pub number : r ≡ refusal t
  pub values : answer' ≡ run_numbers t
  pub fee : fee' ≡ fee_or_zero (posted_fee t) ∷ []
  pub charged : charged' ≡ one_if_some (posted_fee t) ∷ []

-- by either reader
module _ (read : LineReader) (book line : List ℕ) (units budget day : ℕ) (schedule rates : List ℕ) (amount : ℤ) (shares output : List ℕ) (parts : List ℤ) where
  pub record SettledInNumbersBy (output' : List ℕ) (parts' : List ℤ) (answer' : List ℕ) (fee' : List ℤ) (charged' : List ℕ) (r : ℕ) : Type 0 where
    -- the definition's numbers
    pub numbers : SettledNumbers (S.values_of (S.answered read book line units budget day schedule rates amount shares output parts)) answer' fee' charged' r
    -- what becomes of the lent buffers, clause by clause
    pub answer : S.Reply
    pub buffers : S.SettledBy read book line units budget day schedule rates amount shares output parts output' parts' answer

abbrev pub LineSettled : List ℕ → List ℕ → ℕ → ℕ → ℕ → List ℕ → List ℕ → ℤ → List ℕ → List ℕ → List ℤ → List ℕ → List ℤ → List ℕ → List ℤ → List ℕ → ℕ → Type 0
LineSettled = SettledInNumbersBy read_line

abbrev pub PayeeSettled : List ℕ → List ℕ → ℕ → ℕ → ℕ → List ℕ → List ℕ → ℤ → List ℕ → List ℕ → List ℤ → List ℕ → List ℤ → List ℕ → List ℤ → List ℕ → ℕ → Type 0
PayeeSettled = SettledInNumbersBy read_text

-- THE STRICT PROFILE (document 02, Change 13)

-- a number, 0 if there is none
abbrev pub number_or_0 : Option ℕ → ℕ
number_or_0 none = 0
number_or_0 (some k) = k

-- two rules that match one term, by their numbers in book order; zeros where none are told
abbrev pub pair_numbers : Verdict → List ℕ
pair_numbers (Verdict.faulty k) = 0 ∷ 0 ∷ []
pair_numbers (Verdict.overlapping i j) = i ∷ j ∷ []
pair_numbers Verdict.admitted = 0 ∷ 0 ∷ []

pub record StrictInNumbers (book pair' : List ℕ) (r : ℕ) : Type 0 where
  -- 0 for an admitted book
  pub number : r ≡ number_or_0 (strict_number (strict_of book))
  pub pair : pair' ≡ pair_numbers (strict_of book)
