-- `orders::enter` meets its contract: a job with step 0 and the count of the first JOIN, if there is a step. Assumes nothing.
use mathlib.Core.Path.{◌∙◌}
use native.Mathlib.Omega.{arith}
use Rattle.orders.proofs.Changes.{enter_room, enters_some, enters_none}
use Rattle.orders.proofs.enter.Goals as goal

pub push-requires : goal.push-requires
push-requires c =
    let q = c.requires.1 in
    (enter_room (c.has_step.ensures ∙ c.if-has_step.true) q, (q.offset, omega arith, omega (arith, c.next_count-c.ensures.few)))

pub returns-then-has_step : goal.returns-then-has_step
returns-then-has_step c =
    enters_some (c.has_step.ensures ∙ c.if-has_step.true) c.next_count-c.ensures c.push.ensures

pub returns-else-has_step : goal.returns-else-has_step
returns-else-has_step c = enters_none (c.has_step.ensures ∙ c.if-has_step.false) c.requires.1
