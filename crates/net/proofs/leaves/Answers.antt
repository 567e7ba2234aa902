-- `net::leaves` meets its contract: host, depth and key are compared in turn. Assumes nothing.
use mathlib.Core.Path.{sym, ◌∙◌}
use borrow.Author.Tests.{eqb-true, eqb-false}
use Rattle.net.proofs.Ways.{other_host, other_depth, by_key}
use Rattle.net.proofs.leaves.Goals as goal
use Rattle.net.proofs.leaves.Goals.{then-cell-i, else-cell-i}

pub returns-then-cell-d : goal.returns-then-cell-d
returns-then-cell-d c =
    elim c.if-cell-i.branch [
      | then-cell-i w ↦
          by_key _ _ _ _ _ _ c.cell.ensures.0 w.if-cell-i.true _ w.cell-then-cell-i.ensures.0 (eqb-true _ _ (sym w.value-is ∙ c.if-cell-d.true)) _ _
          c.cell-then-cell-d.ensures.0 c.from.ensures
      | else-cell-i w ↦ absurd (w.if-cell-i.false (eqb-true _ _ (sym w.value-is ∙ c.if-cell-d.true)))
    ]

pub returns-else-cell-d : goal.returns-else-cell-d
returns-else-cell-d c =
    elim c.if-cell-i.branch [
      | then-cell-i w ↦
          rw c.if-cell-d.false (other_depth _ _ _ _ _ _ c.cell.ensures.0 w.if-cell-i.true _ w.cell-then-cell-i.ensures.0
          (eqb-false _ _ (sym w.value-is ∙ c.if-cell-d.false)))
      | else-cell-i w ↦ rw c.if-cell-d.false (other_host _ _ _ _ _ _ c.cell.ensures.0 w.if-cell-i.false)
    ]
