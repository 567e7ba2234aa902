-- How long a schedule suffices (document 02, Change 14): the orders that a run carries out, rounds, and what is claimed of them. That it holds is proved in
-- proofs/Enough. Assumes nothing.
use Rattle.std.specs.Prelude.{true, false, ◌⊎◌, ◌≡◌, ℕ, ◌+◌, ◌*◌, ◌≤◌, ◌<◌, length, replicate}
use mathlib.Core.List.{List, [], ◌∷◌, flatten}
use Rattle.std.proofs.Math.Option.{Option, some}
use Rattle.paper.specs.Book.{Term, Book}
use Rattle.paper.specs.Machine.{UnitState, State, Ending, Outcome, going, ended, Limits, Grant, in_force, unit, entry_by, start}
use Rattle.paper.specs.Run.{run_from_by, run_by}
use Rattle.paper.specs.OneUnit.{unlimited, alone}
use Rattle.paper.specs.Parts.{from_point, parked_by, parked_parts_by}
use Rattle.paper.specs.Sound.{In, All}

-- "an entry for an idle unit isn't one": 1 for a busy unit
unfoldable pub order_of : UnitState → ℕ
order_of x = elim x.busy [ true ↦ 1 | false ↦ 0 ]

unfoldable pub onward : (State → ℕ) → Outcome → ℕ
onward k (going ev s) = k s
onward k (ended e s) = 0

module _ (G : Grant) (B : Book) (L : Limits) where
  -- the orders carried out from a state on; the entry that ends the run carries one out
  unfoldable pub carried_from : List ℕ → State → ℕ
  unfolding order_of onward entry_by
  carried_from [] s = 0
  carried_from (u ∷ us) s = order_of (unit s.units u) + onward (carried_from us) (entry_by G B L u s)

  unfoldable pub carried : ℕ → List ℕ → Term → ℕ
  unfolding carried_from start
  carried units schedule t = carried_from schedule (start units t)

  -- over all parts of a run in parts
  unfoldable pub carried_parts : List (List ℕ) → State → ℕ
  unfolding carried_from parked_by from_point
  carried_parts [] s = 0
  carried_parts (us ∷ parts) s = carried_from us s + from_point 0 (carried_parts parts) (parked_by G B L us s)

-- a round names every unit
abbrev pub Names : ℕ → List ℕ → Type 0
Names units r = (v : ℕ) → v < units → In v r

-- The run of one unit without symbol limit, over n entries: S, the orders that it carries out, BINGO included, and F, its FORKs.
module _ (B : Book) (budget : ℕ) (t : Term) (n : ℕ) where
  abbrev pub orders_alone : ℕ
  orders_alone = carried in_force B (unlimited budget) 1 (replicate n 0) t

  abbrev pub forks_alone : ℕ
  forks_alone = let A = alone B budget t n in A.granted + A.kept

  -- S + 4 × F
  abbrev pub sufficient : ℕ
  sufficient = orders_alone + 4 * forks_alone

  -- What is claimed if that run finishes within the budget, by a grant rule, for any symbol limit and any number of units. A run in parts is counted from its first
  -- start.
  module _ (G : Grant) (symbols : Option ℕ) (units : ℕ) where
    abbrev within : Limits
    within = record { budget = budget; symbols = symbols }

    -- "they finish, or end full"
    abbrev Uncut : Ending → Type 0
    Uncut e = (e ≡ Ending.finished) ⊎ (e ≡ Ending.full)

    pub record Enough : Type 0 where
      -- at most S + 4 × F orders are carried out, whatever the schedule; over all parts of a run in parts too
      pub most : (schedule : List ℕ) → carried G B within units schedule t ≤ sufficient
      pub most_parts : (parts : List (List ℕ)) → carried_parts G B within parts (start units t) ≤ sufficient
      -- S + 4 × F rounds or more, each naming every unit, finish or end full
      pub rounds : 1 ≤ units → (rs : List (List ℕ)) → All (Names units) rs → sufficient ≤ length rs → Uncut (run_by G B within units (flatten rs) t).ending
      -- a point that a run saved, resumed with rounds that make up S + 4 × F with the orders carried out before it, finishes or ends full
      pub resumed : 1 ≤ units → (parts : List (List ℕ)) (s : State) → parked_parts_by G B within parts (start units t) ≡ some s →
          (rs : List (List ℕ)) → All (Names units) rs → sufficient ≤ carried_parts G B within parts (start units t) + length rs →
          Uncut (run_from_by G B within (length (flatten parts)) (flatten rs) s).ending
