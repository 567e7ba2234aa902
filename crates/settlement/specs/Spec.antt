-- A run and the charge of what it posts (document 02, Change 12): which definition the answer equals, and what becomes of the lent buffers. Assumes nothing.
use Rattle.std.specs.Prelude.{Result as Checked}
use Rattle.std.specs.Prelude.{Ok, Err, List, [], ◌++◌, ◌≡◌, ℕ, ℤ, length, drop}
use Rattle.std.proofs.Math.Option.{Option, none, some}
use Rattle.paper.specs.Result.{Result, refused, accepted, then}
use Rattle.paper.specs.Tree.{preorder}
use Rattle.paper.specs.Machine.{Ending}
use Rattle.paper.specs.Run.{Answer}
use Rattle.paper.specs.Page.{Request, LineReader, answer_by}
use Rattle.refusal.specs.declared.Refusal.{Refusal}
use Rattle.refusal.specs.Numbers.{number}
use Rattle.engine.specs.Spec as R
use Rattle.fees.specs.Fees.{Charge, charge}
use Rattle.settlement.specs.declared.Settled as D

-- THE DEFINITION

-- a run, and the charge of its posting, if it has one
pub record Settlement : Type 0 where
  pub run : Answer
  pub charge : Option Charge

-- A posting is the term of a finished run. Any other run has none, and rates, amount and shares are not looked at.
unfoldable pub charged : Ending → List ℕ → List ℕ → ℤ → List ℕ → Result (Option Charge)
unfolding then charge
charged Ending.finished term rates amount shares = then (charge term rates amount shares) (λ C. accepted (some C))
charged Ending.spent term rates amount shares = accepted none
charged Ending.full term rates amount shares = accepted none
charged Ending.cut term rates amount shares = accepted none

-- by either reader
module _ (read : LineReader) (book line : List ℕ) (units budget day : ℕ) (schedule output : List ℕ) where
  -- the run is asked for as with work area and net of the published lengths
  abbrev pub asked : Request
  asked = record {
    book = book;
    line = line;
    units = units;
    budget = budget;
    day = day;
    schedule = schedule;
    work = (R.published).work;
    net = (R.published).net;
    output = length output;
  }

  abbrev pub ran : Result Answer
  ran = answer_by read R.published asked

  -- first the run's own refusals, then those of its posting: 22, then 23
  unfoldable pub settled : List ℕ → ℤ → List ℕ → Result Settlement
  unfolding then answer_by charged
  settled rates amount shares =
      then ran (λ A. then (charged A.ending (preorder A.term) rates amount shares) (λ c. accepted (record { run = A; charge = c })))

-- ANSWERS

-- a run's values, and the fee, if there is a posting
pub record Told : Type 0 where
  pub run : R.Values
  pub fee : Option ℤ

-- the refusal's number or the values, for each case of the code's answer
abbrev pub Reply : Type 0
Reply = Checked D.Settled Refusal

abbrev pub told : Reply → Result D.Settled
told (Err e) = refused (number e)
told (Ok s) = accepted s

abbrev pub values : Result D.Settled → Result Told
values (refused k) = refused k
values (accepted (D.Settled.Ended r)) = accepted (record { run = R.run_values r; fee = none })
values (accepted (D.Settled.Posted r f)) = accepted (record { run = R.run_values r; fee = some f })

-- and of the definition's
abbrev pub fee_of : Option Charge → Option ℤ
fee_of none = none
fee_of (some C) = some C.fee

abbrev pub with_fee : Result R.Values → Option ℤ → Result Told
with_fee (refused k) f = refused k
with_fee (accepted v) f = accepted (record { run = v; fee = f })

abbrev pub values_of : Result Settlement → Result Told
values_of (refused k) = refused k
values_of (accepted S) = with_fee (R.values_of (accepted S.run)) (fee_of S.charge)

-- THE ENTRY POINT

-- the lent array: the parts in front, if there is a charge, and its other elements as they were
abbrev pub with_parts : Option Charge → List ℤ → List ℤ
with_parts none parts = parts
with_parts (some C) parts = C.parts ++ drop (length C.parts) parts

-- Book, line, schedule, rates and shares are lent to be read, so they are unchanged.
module _ (read : LineReader) (book line : List ℕ) (units budget day : ℕ) (schedule rates : List ℕ) (amount : ℤ) (shares output : List ℕ) (parts : List ℤ) where
  abbrev pub answered : Result Settlement
  answered = settled read book line units budget day schedule output rates amount shares

  pub record SettledBy (output' : List ℕ) (parts' : List ℤ) (r : Reply) : Type 0 where
    -- the answer is the definition's
    pub answer : values (told r) ≡ values_of answered
    -- on a refusal, be it of the run or of its posting, every lent buffer is unchanged
    pub unchanged : (k : ℕ) → answered ≡ refused k → (output' ≡ output) × (parts' ≡ parts)
    -- otherwise the output has the present term in front, and its other bytes as they were
    pub written : (S : Settlement) → answered ≡ accepted S →
        (output' ≡ preorder S.run.term ++ drop (length (preorder S.run.term)) output) × (parts' ≡ with_parts S.charge parts)
    -- the run is one of which demand 3 holds; nothing is said there of the areas, which are its own
    pub run_of : (S : Settlement) → answered ≡ accepted S → R.RunBy read book line units budget day schedule [] [] output S.run
