-- The state of the machine on lists that arrays and numbers show: the present term's symbols, with their marks, the units' work area and cells, what is counted, and the
-- limits. Assumes nothing.
use Rattle.std.specs.Prelude.{List, ℕ, suc}
use Rattle.std.proofs.Math.Option.{some}
use Rattle.paper.specs.Line.{symbol_limit}
use Rattle.paper.specs.Machine as M
use Rattle.flat.specs.Machine.{FlatState}
use Rattle.term.specs.Present.{operators_in, marks_in, sizes_in}
use Rattle.units.specs.Stacks.{Store, store, units_in}
use Rattle.whole.specs.declared.Progress.{Progress}
use Rattle.whole.specs.declared.Limits.{Limits}
use Rattle.whole.specs.declared.Whole.{Whole}

-- what a run changes
pub record Arrays : Type 0 where
  pub symbols : List ℕ
  pub store : Store

abbrev pub arrays : List ℕ → List ℕ → List ℕ → Arrays
arrays symbols work cells = record { symbols = symbols; store = store work cells }

-- the last is the order in which the pending parts were placed, which no order of this crate changes
abbrev pub state : Arrays → Progress → Limits → List ℕ → FlatState
state s p l placed = record {
  symbols = operators_in s.symbols;
  sizes = sizes_in s.symbols;
  marks = marks_in s.symbols;
  units = units_in s.store l.units;
  rewrites = p.rewrites;
  granted = p.granted;
  kept = p.kept;
  placed = placed;
}

-- the budget, and the term's 1,024 symbols
abbrev pub limits : Limits → M.Limits
limits l = record { budget = l.budget; symbols = some symbol_limit }

-- what is counted after WHOLE
abbrev pub progress : Progress → Whole → Progress
progress p Whole.Rewrote = record { rewrites = suc p.rewrites; granted = p.granted; kept = p.kept }
progress p Whole.Missed = p
progress p Whole.Spent = p
progress p Whole.Full = p
