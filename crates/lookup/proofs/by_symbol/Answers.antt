-- `lookup::by_symbol` meets its contract. Assumes nothing.
use mathlib.Core.Path.{refl}
use Rattle.lookup.proofs.Nodes.{branch_by}
use Rattle.lookup.proofs.by_symbol.Goals as goal

pub returns-in_err-rule : goal.returns-in_err-rule
returns-in_err-rule c = rw c.from_residual.ensures (branch_by _ _ _ _ _ _ _ c.in_err-rule.ensures.0 c.operator_at.ensures)

pub returns : goal.returns
returns c = (branch_by _ _ _ _ _ _ _ c.in_ok-rule.ensures.0 c.operator_at.ensures, refl, refl, refl)
