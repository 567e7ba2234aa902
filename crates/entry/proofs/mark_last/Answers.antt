-- `entry::mark_last` meets its contract. Assumes nothing.
use mathlib.Core.Path.{◌∙◌}
use native.Mathlib.Omega.{arith}
use lib.ListN.{drop}
use Rattle.tables.specs.Layout.{steps_in}
use Rattle.entry.proofs.Marks.{left_some, left_none}
use Rattle.entry.proofs.mark_last.Goals as goal

pub mark-requires : goal.mark-requires
mark-requires c = let p = c.requires in omega (arith, p.2, p.3)

pub returns-then-not-has_step : goal.returns-then-not-has_step
returns-then-not-has_step c =
    let a = c.args in
    left_none (drop a.k (steps_in a.operators.now a.o)) (c.has_step.ensures ∙ c.if-not-has_step.true) c.requires.2 c.mark.ensures

pub returns-else-not-has_step : goal.returns-else-not-has_step
returns-else-not-has_step c =
    let a = c.args in
    left_some (drop a.k (steps_in a.operators.now a.o)) (c.has_step.ensures ∙ c.if-not-has_step.false)
