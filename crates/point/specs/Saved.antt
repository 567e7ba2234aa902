-- A saved run (flat/specs/Form) as arrays and numbers: the present term with its marks, the units' work area and cells, the order of placing, and the counts.
-- Assumes nothing.
use Rattle.std.specs.Prelude.{List, ℕ, ◌≤◌, ◌<◌}
use Rattle.paper.specs.Sound.{All}
use Rattle.flat.specs.Machine.{FlatState}
use Rattle.flat.specs.Form.{Saved}
use Rattle.term.specs.Present.{operators_in, marks_in, sizes_in, Sized}
use Rattle.units.specs.Stacks.{Store, store, units_in}
use Rattle.units.specs.Promises.{StacksFit}
use Rattle.placing.specs.Order.{placed_in, OrderFits}
use Rattle.point.specs.declared.Numbers.{Numbers}

-- the arrays of a run
pub record Arrays : Type 0 where
  pub symbols : List ℕ
  pub store : Store
  pub order : List ℕ

abbrev pub arrays : List ℕ → List ℕ → List ℕ → List ℕ → Arrays
arrays symbols work cells order = record { symbols = symbols; store = store work cells; order = order }

abbrev pub state : Numbers → Arrays → FlatState
state x a = record {
  symbols = operators_in a.symbols;
  sizes = sizes_in a.symbols;
  marks = marks_in a.symbols;
  units = units_in a.store x.units;
  rewrites = x.rewrites;
  granted = x.granted;
  kept = x.kept;
  placed = placed_in a.order;
}

abbrev pub saved : Numbers → Arrays → Saved
saved x a = record { budget = x.budget; parked = record { entries = x.entries; state = state x a } }

-- what holds of the arrays whatever stands in them: one term with true sizes, by the arities of n operators, whole frames in each unit's region, an order that is
-- counted within its array, one to eight units
pub record Standing (arity : ℕ → ℕ) (n : ℕ) (x : Numbers) (a : Arrays) : Type 0 where
  pub sized : Sized arity a.symbols
  pub known : All (λ o. o < n) (operators_in a.symbols)
  pub fit : StacksFit a.store
  pub order_fits : OrderFits a.order
  pub some_units : 1 ≤ x.units
  pub few_units : x.units ≤ 8
