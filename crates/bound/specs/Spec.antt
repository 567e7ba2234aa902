-- S and F of a book and a line (document 02, Change 14): which definition the answer equals, that the two are those of a one-unit run without symbol limit, and what
-- becomes of the lent buffers. Assumes nothing.
use Rattle.std.specs.Prelude.{Result as Checked}
use Rattle.std.specs.Prelude.{Ok, Err, List, ◌≡◌, ℕ, ◌+◌, length, replicate}
use Rattle.paper.specs.Result.{Result, refused, accepted, then}
use Rattle.paper.specs.Book.{Term, Book}
use Rattle.paper.specs.Dated.{AnyBook, read_any, on_day}
use Rattle.paper.specs.Machine.{Ending}
use Rattle.paper.specs.Run.{Answer}
use Rattle.paper.specs.OneUnit.{alone}
use Rattle.paper.specs.Enough.{orders_alone, forks_alone}
use Rattle.paper.specs.Page.{Request, LineReader, answer_by}
use Rattle.refusal.specs.declared.Refusal.{Refusal}
use Rattle.refusal.specs.Numbers.{number}
use Rattle.run.specs.Promises.{ending}
use Rattle.engine.specs.Spec.{published}
use Rattle.bound.specs.declared.Bound as D

-- THE DEFINITION

-- S and F; or how the run ended that would have told them
pub data Bound : Type 0 where
  told : ℕ → ℕ → Bound
  unknown : Ending → Bound

-- A run of one unit carries out an order in each entry. Where it does not finish, the two are not known: the budget is less than what is needed, or the symbols are
-- more than their limit, which another order of units might keep, or the entries are too few.
unfoldable pub tells : Ending → ℕ → ℕ → Bound
tells Ending.finished s f = Bound.told s f
tells Ending.spent s f = Bound.unknown Ending.spent
tells Ending.full s f = Bound.unknown Ending.full
tells Ending.cut s f = Bound.unknown Ending.cut

-- by either reader
module _ (read : LineReader) (book line : List ℕ) (budget day : ℕ) where
  module _ (work net : List ℕ) where
    -- the run of one unit, over 65,536 entries; the output is its own
    abbrev pub asked : Request
    asked = record {
      book = book;
      line = line;
      units = 1;
      budget = budget;
      day = day;
      schedule = replicate 65536 0;
      work = length work;
      net = length net;
      output = 1024;
    }

    abbrev pub ran : Result Answer
    ran = answer_by read published asked

    -- refused as that run is
    unfoldable pub bound_of : Result Bound
    unfolding then answer_by tells
    bound_of = then ran (λ A. accepted (tells A.ending A.entries (A.granted + A.kept)))

  -- S and F are the orders that a one-unit run without symbol limit carries out, BINGO included, and its FORKs, by the rules that stand on the day, from the term that
  -- the line is read as; and that run finishes within the budget
  pub record ToldBy (S F : ℕ) : Type 0 where
    pub given : AnyBook
    pub rules : Book
    pub term : Term
    pub book_read : read_any book ≡ accepted given
    pub of_day : rules ≡ on_day day given
    pub line_read : read rules line ≡ accepted term
    pub finishes : (alone rules budget term S).ending ≡ Ending.finished
    pub orders : orders_alone rules budget term S ≡ S
    pub forks : forks_alone rules budget term S ≡ F

-- THE ENTRY POINT

-- what is told, for each case of the code's
abbrev pub bound_told : D.Bound → Bound
bound_told (D.Bound.Unknown e) = Bound.unknown (ending e)
bound_told (D.Bound.Told s f) = Bound.told s f

-- the code's answer, and document 01's number or what is told for each case of it
abbrev pub Reply : Type 0
Reply = Checked D.Bound Refusal

abbrev pub values : Reply → Result Bound
values (Err e) = refused (number e)
values (Ok b) = accepted (bound_told b)

-- Book and line are lent to be read, so they are unchanged.
module _ (read : LineReader) (book line : List ℕ) (budget day : ℕ) (work net : List ℕ) where
  pub record BoundBy (work' net' : List ℕ) (r : Reply) : Type 0 where
    -- the answer is the definition's
    pub answer : values r ≡ bound_of read book line budget day work net
    -- what is told is so; that S + 4 × F rounds suffice follows (proofs/Laws, suffices)
    pub exact : (S F : ℕ) → bound_of read book line budget day work net ≡ accepted (Bound.told S F) → ToldBy read book line budget day S F
    -- on a refusal both areas are unchanged
    pub unchanged : (k : ℕ) → bound_of read book line budget day work net ≡ refused k → (work' ≡ work) × (net' ≡ net)
    -- otherwise they are all zero, at their full lengths
    pub cleared : (b : Bound) → bound_of read book line budget day work net ≡ accepted b → (work' ≡ replicate (length work) 0) × (net' ≡ replicate (length net) 0)
