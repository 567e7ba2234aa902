-- `orders::exit` meets its contract: the top frame is dropped, and the EXIT arrives. Assumes nothing.
use Rattle.orders.proofs.Changes.{exit_join, exited}
use Rattle.orders.proofs.exit.Goals as goal

pub arrive-requires : goal.arrive-requires
arrive-requires c =
    exit_join c.requires (c.drop_top.ensures.change _ c.requires.top.fit) _ _ c.from.ensures c.from-2.ensures

pub returns : goal.returns
returns c =
    exited (c.drop_top.ensures.change _ c.requires.top.fit) c.from.ensures c.from-2.ensures c.arrive.ensures
