-- The entry points of runs with a name: which definition their answers equal, and what becomes of each lent buffer (document 02, Changes 11 and 14). The buffer of points is
-- said slot by slot in parking/specs/Points. Assumes nothing.
use Rattle.std.specs.Prelude.{List, ◌++◌, ◌≡◌, ℕ, length, drop, replicate}
use Rattle.paper.specs.Result.{Result, refused, accepted}
use Rattle.paper.specs.Tree.{preorder}
use Rattle.paper.specs.Run.{Answer}
use Rattle.paper.specs.Page.{LineReader}
use Rattle.flat.specs.Run.{FlatAnswer}
use Rattle.engine.specs.Spec.{published, Reply, Values, values, values_of, request, RunBy}
use Rattle.parking.specs.Points.{After, park_by, resume_of}
use Rattle.parking.specs.Change14.{FirstStart, EnoughSince}

-- a definition's answer without the buffer of points
abbrev pub told : {A : Type 0} → Result (After A) → Result A
told (refused k) = refused k
told (accepted x) = accepted x.answer

-- A RUN WITH A NAME, by either reader
module _ (read : LineReader) (book line : List ℕ) (units budget day : ℕ) (schedule name work net points output : List ℕ) where
  abbrev pub parked : Result (After Answer)
  parked = park_by read published (request book line units budget day schedule work net output) name points

  pub record ParkedBy (work' net' points' output' : List ℕ) (r : Reply) : Type 0 where
    -- the answer is the definition's
    pub answer : values r ≡ values_of (told parked)
    -- on a refusal every lent buffer is unchanged
    pub unchanged : (k : ℕ) → parked ≡ refused k → (work' ≡ work) × (net' ≡ net) × (points' ≡ points) × (output' ≡ output)
    -- after an accepted run work area and net are all zero, at their full lengths
    pub cleared : (x : After Answer) → parked ≡ accepted x → (work' ≡ replicate (length work) 0) × (net' ≡ replicate (length net) 0)
    -- the points are the definition's
    pub points_are : (x : After Answer) → parked ≡ accepted x → points' ≡ x.points
    -- the output has the present term in front, and its other bytes as they were
    pub written : (x : After Answer) → parked ≡ accepted x →
        output' ≡ preorder x.answer.term ++ drop (length (preorder x.answer.term)) output
    -- the answer is that of a run, of which demand 3 holds
    pub run_of : (x : After Answer) → parked ≡ accepted x → RunBy read book line units budget day schedule work net output x.answer

-- A RESUMPTION

abbrev pub flat_values : FlatAnswer → Values
flat_values A = record {
  ending = A.ending;
  rewrites = A.rewrites;
  entries = A.entries;
  granted = A.granted;
  kept = A.kept;
  length = length A.symbols;
}

abbrev pub flat_values_of : Result FlatAnswer → Result Values
flat_values_of (refused k) = refused k
flat_values_of (accepted A) = accepted (flat_values A)

module _ (name schedule work net points output : List ℕ) where
  abbrev pub resumed : Result (After FlatAnswer)
  resumed = resume_of published (length work) (length net) (length output) schedule name points

  pub record ResumedBy (work' net' points' output' : List ℕ) (r : Reply) : Type 0 where
    pub answer : values r ≡ flat_values_of (told resumed)
    pub unchanged : (k : ℕ) → resumed ≡ refused k → (work' ≡ work) × (net' ≡ net) × (points' ≡ points) × (output' ≡ output)
    pub cleared : (x : After FlatAnswer) → resumed ≡ accepted x → (work' ≡ replicate (length work) 0) × (net' ≡ replicate (length net) 0)
    pub points_are : (x : After FlatAnswer) → resumed ≡ accepted x → points' ≡ x.points
    pub written : (x : After FlatAnswer) → resumed ≡ accepted x → output' ≡ x.answer.symbols ++ drop (length x.answer.symbols) output
    -- how long a schedule suffices for a point that a run saved, counted from its first start
    pub enough : (x : After FlatAnswer) → resumed ≡ accepted x → (first : FirstStart published name points) → EnoughSince first schedule x.answer.ending
