-- The run over a schedule (document 01, 'How a run ends'; document 02, Change 11): its answer, and the state that it leaves if it is cut, are those of the machine on
-- lists. Assumes nothing.
use Rattle.std.specs.Prelude.{List, ◌≡◌, ℕ, ◌+◌, ◌^◌, ◌≤◌, ◌<◌, length}
use Rattle.std.proofs.Math.Option.{Option, none, some}
use Rattle.paper.specs.Sound.{All}
use Rattle.flat.specs.Machine.{FlatState}
use Rattle.flat.specs.Run.{FlatAnswer, flat_run_from}
use Rattle.flat.specs.Parts.{flat_parked}
use Rattle.term.specs.Present.{length_in, operators_in}
use Rattle.net.specs.Net.{book_by}
use Rattle.whole.specs.declared.Progress.{Progress}
use Rattle.whole.specs.declared.Limits.{Limits}
use Rattle.entry.specs.State.{limited, state, Arrays}
use Rattle.entry.specs.Promises.{Running}
pub use Rattle.entry.specs.Promises.{ending}
pub use Rattle.entry.specs.declared.Ending.{Ending}
use Rattle.run.specs.declared.Run.{Run}

-- before the first entry of a part nothing is counted but the rewrites of the parts before
abbrev pub begun : ℕ → Progress
begun rewrites = record { rewrites = rewrites; granted = 0; kept = 0 }

-- the operators and the net are of a book, s is a state that runs by it reach, every entry names one of the units, and the budget has 32 bits
pub record Runnable (bytes operators net : List ℕ) (l : Limits) (schedule : List ℕ) (s : FlatState) : Type 0 where
  pub running : Running bytes operators net l s
  pub named : All (λ u. u < l.units) schedule
  pub small : l.budget < 2 ^ 32

-- the answer that a run's numbers and the symbols that it leaves are
abbrev pub answer : Run → List ℕ → FlatAnswer
answer r symbols = record {
  ending = ending r.ending;
  rewrites = r.rewrites;
  entries = r.entries;
  granted = r.granted;
  kept = r.kept;
  symbols = operators_in symbols;
}

-- a run that ended so after so many entries, with this progress, and what is left in the symbols
abbrev pub ended : Ending → ℕ → Progress → List ℕ → Run
ended e n p symbols = record { ending = e; rewrites = p.rewrites; entries = n; granted = p.granted; kept = p.kept; length = length_in symbols }

-- the progress that a run's numbers are
abbrev pub counted : Run → Progress
counted r = record { rewrites = r.rewrites; granted = r.granted; kept = r.kept }

-- what is left to resume: the state in which a cut run stands, and of any other run nothing
abbrev pub left_by : Ending → FlatState → Option FlatState
left_by Ending.Finished s = none
left_by Ending.Spent s = none
left_by Ending.Full s = none
left_by Ending.Cut s = some s

abbrev pub left : Run → FlatState → Option FlatState
left r s = left_by r.ending s

-- what holds of the numbers whatever the ending
pub record Bounded (l : Limits) (schedule symbols : List ℕ) (r : Run) : Type 0 where
  pub long : length symbols ≡ 1024
  pub root : r.length ≡ length_in symbols
  pub most : r.length ≤ 1024
  pub allowed : r.rewrites ≤ l.budget
  pub used : r.entries ≤ length schedule
  pub forks : r.granted + r.kept ≤ r.entries

-- r is the run of a schedule from the state s, by the book of the bytes and the net, which has left these arrays: its answer, and if it was cut the state in which it stands
pub record Ran (bytes net : List ℕ) (l : Limits) (schedule : List ℕ) (s : FlatState) (symbols scratch work units order : List ℕ) (r : Run) : Type 0 where
  pub is : answer r symbols ≡ flat_run_from (book_by bytes net) (limited l.budget) 0 schedule s
  pub parked : left r (state symbols work units order (counted r) l) ≡ flat_parked (book_by bytes net) (limited l.budget) schedule s
  pub bounded : Bounded l schedule symbols r
  pub arrays : Arrays symbols scratch work units order l
