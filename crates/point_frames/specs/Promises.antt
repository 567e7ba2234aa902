-- What the functions that test frames ask and ensure: their answers are those of flat/specs/Tested, for every book by which the operators' table has the arities
-- and steps of the term's operators, and every state with the term's operators and the units. Assumes nothing.
use Rattle.std.specs.Prelude.{Bool, List, [], ◌∷◌, ◌≡◌, ℕ, suc, ◌+◌, ◌<◌, length}
use Rattle.paper.specs.Book.{Book, arity, steps}
use Rattle.paper.specs.Sound.{All}
use Rattle.flat.specs.Machine.{Frame, FlatState}
use Rattle.flat.specs.Rules.{steps_left, jobs}
use Rattle.flat.specs.Meets.{frame}
use Rattle.flat.specs.Tested as T
use Rattle.tables.specs.Layout.{arity_in, steps_in, Rowed}
use Rattle.term.specs.Present.{length_in, operators_in, Sized}
use Rattle.units.specs.Stacks.{Store, units_in, Below}
use Rattle.point_frames.specs.declared.steps.Rest.{Rest}
use Rattle.point_frames.specs.Steps.{Told}
use Rattle.point_frames.specs.Counting.{Kept, frame_in}

-- WHAT IS ASKED

-- one term with true sizes, whose operators have rows
pub record Termed (operators symbols : List ℕ) : Type 0 where
  pub sized : Sized (arity_in operators) symbols
  pub rowed : All (Rowed operators) (operators_in symbols)

-- each job is inside a term of m symbols
pub record Inside (m : ℕ) (k : Store) (n : ℕ) : Type 0 where
  pub each : (v i : ℕ) → Below m (frame_in k n v i)

pub record Readable (operators symbols : List ℕ) (k : Store) (n : ℕ) : Type 0 where
  pub term : Termed operators symbols
  pub kept : Kept k n
  pub inside : Inside (length_in symbols) k n

-- BOOKS AND STATES

-- the table has the arity and the steps that the operator o has by the book
pub record OperatorSaid (operators : List ℕ) (B : Book) (o : ℕ) : Type 0 where
  pub arity_is : arity_in operators o ≡ arity B o
  pub steps_are : steps_in operators o ≡ steps B o

pub record Said (operators symbols : List ℕ) (B : Book) (s : FlatState) : Type 0 where
  pub symbols_are : s.symbols ≡ operators_in symbols
  pub each : All (OperatorSaid operators B) (operators_in symbols)

pub record Point (operators symbols : List ℕ) (k : Store) (n : ℕ) (B : Book) (s : FlatState) : Type 0 where
  pub said : Said operators symbols B s
  pub units_are : s.units ≡ units_in k n

-- WHAT IS ENSURED

-- r is of the steps that a frame's job has left
pub record Left (operators symbols : List ℕ) (f : Frame) (r : Rest) : Type 0 where
  pub is : (B : Book) (s : FlatState) → Said operators symbols B s → Told (steps_left B s.symbols f) r

-- of the job at offset a, with r of the steps that it has left; n EXITs are awaited, and with the job that stands on it m arguments are taken
module _ (a k c : ℕ) (r : Rest) where
  pub record JobTested (b : Bool) : Type 0 where
    pub is : (B : Book) (s : FlatState) → Told (steps_left B s.symbols (Frame.job a k c)) r → a < length s.symbols → T.job_good B s a k c ≡ b

  pub record CountTested (n : ℕ) (b : Bool) : Type 0 where
    pub is : (B : Book) (s : FlatState) (v i : ℕ) → Told (steps_left B s.symbols (Frame.job a k c)) r → n ≡ T.awaited B s v i →
        T.count_good B s v i a k c ≡ b

  pub record RoomTested (operators symbols : List ℕ) (m : ℕ) (b : Bool) : Type 0 where
    pub is : (B : Book) (s : FlatState) (v i : ℕ) → Said operators symbols B s → Told (steps_left B s.symbols (Frame.job a k c)) r →
        m ≡ jobs (frame s v (suc i) ∷ []) + T.awaited B s v i → T.room_good B s v i a k ≡ b

-- b is what a test says by every book of the term; of every point
pub record ByTerm (operators symbols : List ℕ) (test : Book → FlatState → Bool) (b : Bool) : Type 0 where
  pub is : (B : Book) (s : FlatState) → Said operators symbols B s → test B s ≡ b

pub record ByPoint (operators symbols : List ℕ) (k : Store) (n : ℕ) (test : Book → FlatState → Bool) (b : Bool) : Type 0 where
  pub is : (B : Book) (s : FlatState) → Point operators symbols k n B s → test B s ≡ b
