-- `orders::visit` meets its contract: the job goes on with its first step, with the count of the first JOIN. Assumes nothing.
use native.Mathlib.Omega.{arith}
use Rattle.orders.proofs.Changes.{visited}
use Rattle.orders.proofs.visit.Goals as goal

pub proceed-requires : goal.proceed-requires
proceed-requires c =
    (c.requires.0, record { top = c.requires.1; offset = c.requires.2; next = omega arith; count = omega (arith, c.next_count-c.ensures.few) })

pub returns : goal.returns
returns c =
    visited c.next_count-c.ensures c.proceed.ensures
