-- A run in parts on lists (document 02, Change 11: "if it ends cut it is saved", "A run parked after k entries and resumed with the rest ends exactly like the
-- unbroken one, counts included; counts over all parts have 64 bits and stay at the highest value once there"): what is parked is the state that a part
-- leaves, with the entries used in all parts. Assumes nothing.
use Rattle.std.specs.Prelude.{true, false, List, [], ◌∷◌, ℕ, ◌+◌, ltb, length}
use Rattle.std.proofs.Math.Option.{Option, none, some}
use Rattle.paper.specs.Book.{Book}
use Rattle.paper.specs.Machine.{Limits}
use Rattle.flat.specs.Machine.{FlatState, FlatOutcome, going, ended, flat_entry}
use Rattle.flat.specs.Run.{FlatAnswer, flat_run_from}

unfoldable pub unless_over : (FlatState → Option FlatState) → FlatOutcome → Option FlatState
unless_over k (going s) = k s
unless_over k (ended e s) = none

-- the state at which a run over some entries, from a state, stands if it ends cut; none if it ends otherwise
unfoldable pub flat_parked : Book → Limits → List ℕ → FlatState → Option FlatState
unfolding unless_over flat_entry
flat_parked B L [] s = some s
flat_parked B L (u ∷ us) s = unless_over (flat_parked B L us) (flat_entry B L u s)

-- COUNTS OF 64 BITS

abbrev pub highest : ℕ
highest = 18446744073709551615

-- a count as it is kept: the highest value stands for itself and all above
unfoldable pub kept_count : ℕ → ℕ
kept_count n = elim (ltb highest n) [ true ↦ highest | false ↦ n ]

-- the state with other counts of FORKs
abbrev pub with_forks : FlatState → ℕ → ℕ → FlatState
with_forks s g k =
    record { symbols = s.symbols; sizes = s.sizes; marks = s.marks; units = s.units; rewrites = s.rewrites; granted = g; kept = k; placed = s.placed }

-- a state and an answer with counts as they are kept; rewrites are within the budget, which has 32 bits
abbrev pub kept_state : FlatState → FlatState
kept_state s = with_forks s (kept_count s.granted) (kept_count s.kept)

abbrev pub kept_answer : FlatAnswer → FlatAnswer
kept_answer a = record {
  ending = a.ending;
  rewrites = a.rewrites;
  entries = kept_count a.entries;
  granted = kept_count a.granted;
  kept = kept_count a.kept;
  symbols = a.symbols;
}

-- COUNTS OF ONE PART: a part may count its entries and FORKs from zero; what the parts before it counted is then added

abbrev pub from_zero : FlatState → FlatState
from_zero s = with_forks s 0 0

-- a state, and an answer, with g granted and k kept FORKs and n entries more
abbrev pub add_forks : ℕ → ℕ → FlatState → FlatState
add_forks g k s = with_forks s (g + s.granted) (k + s.kept)

abbrev pub add_counts : ℕ → ℕ → ℕ → FlatAnswer → FlatAnswer
add_counts n g k a = record {
  ending = a.ending;
  rewrites = a.rewrites;
  entries = n + a.entries;
  granted = g + a.granted;
  kept = k + a.kept;
  symbols = a.symbols;
}

-- PARTS

-- what is parked of a run: the entries used in all its parts, and its state
pub record Parked : Type 0 where
  pub entries : ℕ
  pub state : FlatState

-- a part over some entries, from where the run was parked: where it is parked again
unfoldable pub again : ℕ → Option FlatState → Option Parked
unfolding kept_count
again n none = none
again n (some s) = some (record { entries = kept_count n; state = kept_state s })

unfoldable pub part : Book → Limits → List ℕ → Parked → Option Parked
unfolding flat_parked again
part B L us P = again (P.entries + length us) (flat_parked B L us P.state)

-- several parts, each from where the one before was parked
unfoldable pub from : (Parked → Option Parked) → Option Parked → Option Parked
from k none = none
from k (some P) = k P

unfoldable pub parts : Book → Limits → List (List ℕ) → Parked → Option Parked
unfolding part from
parts B L [] P = some P
parts B L (us ∷ uss) P = from (parts B L uss) (part B L us P)

-- the last part's answer, with a schedule of its own
unfoldable pub resume : Book → Limits → List ℕ → Parked → FlatAnswer
unfolding flat_run_from
resume B L us P = kept_answer (flat_run_from B L P.entries us P.state)
