-- `tables::arity` meets its contract. Assumes nothing.
use mathlib.Core.Path.{◌∙◌, ap}
use Prim.Native.Nat.{ℕ}
use Rattle.tables.specs.Layout.{arity_in}
use Rattle.tables.proofs.arity.Goals as goal

pub returns : goal.returns
returns c = (
  c.index-2.ensures.0 ∙ ap (λ (i : ℕ). arity_in c.args.operators.now i) c.index.ensures.0,
  c.index-2.ensures.1,
)
