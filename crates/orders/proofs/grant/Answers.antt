-- `orders::grant` meets its contract: the job goes on, and unit v gets the argument. Assumes nothing.
use mathlib.Core.Path.{refl}
use Rattle.orders.proofs.Forks.{grant_room, granted}
use Rattle.orders.proofs.grant.Goals as goal

pub give-requires : goal.give-requires
give-requires c =
    (grant_room c.advance.ensures c.requires, c.requires.job.top.unit, c.requires.offset)

pub returns : goal.returns
returns c =
    granted c.advance.ensures refl c.top_index-index.ensures c.give.ensures
