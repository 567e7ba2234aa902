-- Answers of `leave`. Assumes nothing.
use mathlib.Core.Path.{ap, ◌∙◌}
use native.Mathlib.Omega.{arith}
use borrow.Author.Rules.{rules}
use Rattle.flat.specs.Machine.{left}
use Rattle.units.proofs.Changes.{left_start, left_more, left_all}
use Rattle.units.proofs.leave.Goals as goal

pub loop-u-init : goal.loop-u-init
loop-u-init c = left_start

pub store-requires : goal.store-requires
store-requires c =
    let m = c.move_up.ensures in
    let l = c.load.ensures in
    (search rules, record { rank = omega (arith, m.1, l.small.rank); end = omega (arith, m.2, l.small.end) })

pub loop-u-preserved : goal.loop-u-preserved
loop-u-preserved c =
    let m = c.move_up.ensures in
    let l = c.load.ensures in
    left_more _ _ c.loop-u.invariant (m.0 ∙ ap (left _) l.rank) (m.2 ∙ l.end) c.store.ensures

pub returns : goal.returns
returns c = left_all c.requires (omega arith) c.loop-u.invariant
