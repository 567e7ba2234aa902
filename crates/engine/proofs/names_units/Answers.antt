-- Answers of `names_units`. Assumes nothing.
use mathlib.Core.Path.{sym, ◌∙◌}
use native.Mathlib.Omega.{arith}
use Rattle.engine.proofs.Schedule.{names_none, names_more, names_all}
use Rattle.engine.proofs.names_units.Goals as goal

pub loop-u-init : goal.loop-u-init
loop-u-init c = names_none _ _ (omega arith)

pub loop-u-preserved : goal.loop-u-preserved
loop-u-preserved c =
    let k = c.larger-most.ensures in
    c.loop-u.invariant ∙ names_more _ _ c.loop-u.u-index _ _ c.loop-u-test.true k.0 k.1 (k.2 _)

pub returns : goal.returns
returns c =
    let l = c.loop-u in
    rw c.index.ensures.0 (sym (l.invariant ∙ sym (names_all _ _ l.u-index _ (omega arith))))
