-- `orders::proceed` meets its contract: the job stays on top if it has the step, or it is dropped. Assumes nothing.
use mathlib.Core.Path.{◌∙◌}
use Rattle.orders.proofs.Changes.{proceeds_some, proceeds_none}
use Rattle.orders.proofs.proceed.Goals as goal

pub returns-then-has_step : goal.returns-then-has_step
returns-then-has_step c =
    proceeds_some (c.has_step.ensures ∙ c.if-has_step.true) c.advance.ensures

pub returns-else-has_step : goal.returns-else-has_step
returns-else-has_step c =
    proceeds_none (c.has_step.ensures ∙ c.if-has_step.false) (c.drop_top.ensures.change _ c.requires.1.top.fit)
