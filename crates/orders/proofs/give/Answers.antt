-- `orders::give` meets its contract: two frames are put, and the first of the idle queue leaves it. Assumes nothing.
use borrow.Author.Rules.{rules}
use Rattle.orders.proofs.Forks.{second_room, gave}
use Rattle.orders.proofs.give.Goals as goal

pub push-requires-2 : goal.push-requires-2
push-requires-2 c =
    (second_room c.requires.0 c.push.ensures, search rules)

pub returns : goal.returns
returns c =
    gave c.push.ensures (rw c.new.ensures at c.push-2.ensures) c.leave.ensures
