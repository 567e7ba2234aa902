-- `orders::visit_argument` meets its contract: the job goes on, and the orders of the argument are put. Assumes nothing.
use Rattle.orders.proofs.Changes.{can_enter, argument_visited}
use Rattle.orders.proofs.visit_argument.Goals as goal

pub enter-requires : goal.enter-requires
enter-requires c =
    let q = c.requires in
    (q.0, can_enter c.advance.ensures q.2 q.1)

pub returns : goal.returns
returns c =
    argument_visited c.advance.ensures c.enter.ensures
