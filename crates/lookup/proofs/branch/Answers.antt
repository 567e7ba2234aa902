-- `lookup::branch` meets its contract. Assumes nothing.
use mathlib.Core.Path.{sym, ◌∙◌}
use native.Mathlib.Omega.{arith}
use Rattle.lookup.proofs.Nodes.{branch_own, branch_way}
use Rattle.lookup.proofs.branch.Goals as goal

pub returns-then-own-k : goal.returns-then-own-k
returns-then-own-k c =
    let r = c.requires.rule in
    (sym (branch_own _ _ _ _ _ c.if-own-k.true), omega arith)

pub returns-else-own-k : goal.returns-else-own-k
returns-else-own-k c = (c.way.ensures.0 ∙ sym (branch_way _ _ _ _ _ c.if-own-k.false), c.way.ensures.1)
