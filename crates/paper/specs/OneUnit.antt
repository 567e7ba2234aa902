-- The one-unit run without symbol limit, and what is said against it: of the FORKs granted (document 01, 'How a run ends': "FORKs granted (in a
-- finished run at most the FORK orders of a one-unit run without symbol limit)"), and of all FORKs (document 02, Change 2: "In a finished run grants
-- and kept together are exactly the FORKs of a one-unit run without symbol limit"; Change 10: FORKs are "those of the steps with marks, also in the
-- account of Change 2"). Assumes nothing.
use Rattle.std.proofs.Math.Option.{none}
use Rattle.std.specs.Prelude.{◌≡◌, ℕ, ◌+◌, ◌≤◌, replicate}
use Rattle.paper.specs.Book.{Term, Book}
use Rattle.paper.specs.Reduction.{forks}
use Rattle.paper.specs.Walk.{ReducesMarked}
use Rattle.paper.specs.Machine.{Ending, Limits}
use Rattle.paper.specs.Run.{Answer, run}

-- a budget, and no limit of symbols
abbrev pub unlimited : ℕ → Limits
unlimited budget = record { budget = budget; symbols = none }

-- the run of one unit over n entries
abbrev pub alone : Book → ℕ → Term → ℕ → Answer
alone B budget t n = run B (unlimited budget) 1 (replicate n 0) t

-- what holds of the answer A of a finished run
pub record Grants (B : Book) (budget : ℕ) (t : Term) (A : Answer) : Type 0 where
  -- the one-unit run finishes too, if it has entries enough
  pub finishes : (n : ℕ) × ((alone B budget t n).ending ≡ Ending.finished)
  -- it has no unit to grant a FORK to, so the FORK orders that it carries out are those that it kept
  pub none_granted : (n : ℕ) → (alone B budget t n).granted ≡ 0
  -- wherever it finishes, at most so many are granted
  pub at_most : (n : ℕ) → (alone B budget t n).ending ≡ Ending.finished → A.granted ≤ (alone B budget t n).kept

-- every FORK accounted for: what holds of granted and kept together, A being the answer of a finished run
pub record Accounted (B : Book) (budget : ℕ) (t : Term) (A : Answer) : Type 0 where
  -- again: the one-unit run finishes, if it has entries enough, and its FORKs are those that it kept
  pub finishes : (n : ℕ) × ((alone B budget t n).ending ≡ Ending.finished)
  pub none_granted : (n : ℕ) → (alone B budget t n).granted ≡ 0
  -- wherever it finishes, they are exactly these
  pub exactly : (n : ℕ) → (alone B budget t n).ending ≡ Ending.finished → A.granted + A.kept ≡ (alone B budget t n).kept
  -- and exactly the FORKs of reduction one after the other with marks, which leads to the same term
  pub reduces : ReducesMarked B forks t (A.granted + A.kept) A.term
