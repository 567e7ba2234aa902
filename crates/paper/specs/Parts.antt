-- A run in parts (document 02, Change 11: a run that ends cut is saved, and resumed with a schedule of its own): the state at which a part is parked is the
-- one that it leaves. Assumes nothing.
use mathlib.Core.List.{List, [], ◌∷◌}
use Rattle.std.proofs.Math.Option.{Option, none, some}
use Rattle.std.specs.Prelude.{ℕ}
use Rattle.paper.specs.Book.{Book}
use Rattle.paper.specs.Machine.{State, Outcome, going, ended, Limits, Grant, longest, in_force, entry_by}

unfoldable pub unless_ended : (State → Option State) → Outcome → Option State
unless_ended k (going ev s) = k s
unless_ended k (ended e s) = none

-- from a point on, if there is one
unfoldable pub from_point : {A : Type 0} → A → (State → A) → Option State → A
from_point a k none = a
from_point a k (some s) = k s

module _ (G : Grant) (B : Book) (L : Limits) where
  -- the state at which a run over some entries, from a state, stands if it ends cut; none if it ends otherwise
  unfoldable pub parked_by : List ℕ → State → Option State
  unfolding unless_ended entry_by
  parked_by [] s = some s
  parked_by (u ∷ us) s = unless_ended (parked_by us) (entry_by G B L u s)

  -- of several parts, each going on from where the one before was parked: where the last one is
  unfoldable pub parked_parts_by : List (List ℕ) → State → Option State
  unfolding parked_by from_point
  parked_parts_by [] s = some s
  parked_parts_by (us ∷ parts) s = from_point none (parked_parts_by parts) (parked_by us s)

-- by the rule in force
unfoldable pub parked : Book → Limits → List ℕ → State → Option State
unfolding parked_by longest
parked = parked_by in_force

unfoldable pub parked_parts : Book → Limits → List (List ℕ) → State → Option State
unfolding parked_parts_by longest
parked_parts = parked_parts_by in_force
