-- `placing::remove` meets its contract: the parts behind part i have moved down by one. Assumes nothing.
use native.Mathlib.Omega.{arith}
use Rattle.placing.proofs.Order.{moved_down, removed}
use Rattle.placing.proofs.remove.Goals as goal

pub returns : goal.returns
returns c =
    let copied = c.copy_within.ensures in
    let n = c.pending-n.ensures in
    removed _ _ _ c.pending-n.result _ c.requires.0 c.requires.1 (omega (arith, n)) n.0 (moved_down _ copied.len (omega arith) (omega arith) copied.by_index (omega (arith, n))) (omega (arith, n))
