-- The state of a run as a function of what is kept of it: the arrays of the present term and of the units, and the numbers of its progress. It is a
-- state of the machine on lists (whole/specs/State). Assumes nothing.
use Rattle.std.specs.Prelude.{◌≡◌, List, ℕ, ◌≤◌, length}
use Rattle.std.proofs.Math.Option.{some}
use Rattle.paper.specs.Line.{symbol_limit}
use Rattle.paper.specs.Machine as paper
use Rattle.flat.specs.Machine.{FlatState}
use Rattle.term.specs.Present.{length_in}
use Rattle.units.specs.Stacks.{store}
use Rattle.units.specs.Promises.{StacksFit}
use Rattle.placing.specs.Order.{placed_in, OrderFits}
use Rattle.whole.specs.State as whole
use Rattle.whole.specs.declared.Progress.{Progress}
use Rattle.whole.specs.declared.Limits.{Limits}

-- the paper's limits of a run: its budget, and the term's 1,024 symbols
abbrev pub limited : ℕ → paper.Limits
limited budget = record { budget = budget; symbols = some symbol_limit }

abbrev pub state : List ℕ → List ℕ → List ℕ → List ℕ → Progress → Limits → FlatState
state symbols work units order p l = whole.state (whole.arrays symbols work units) p l (placed_in order)

-- the arrays' lengths, and that what is kept lies within them; scratch is room for a filled right side
pub record Arrays (symbols scratch work units order : List ℕ) (l : Limits) : Type 0 where
  pub symbols_long : length symbols ≡ 1024
  pub scratch_long : length scratch ≡ 1024
  pub most : length_in symbols ≤ 1024
  pub fit : StacksFit (store work units)
  pub order_fits : OrderFits order
  pub few : l.units ≤ 8
