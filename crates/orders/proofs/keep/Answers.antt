-- `orders::keep` meets its contract: the job goes on with a count one less, and the argument is put on top. Assumes nothing.
use native.Mathlib.Omega.{arith}
use borrow.Author.Rules.{rules}
use Rattle.orders.proofs.Forks.{keep_room, argument_kept}
use Rattle.orders.proofs.keep.Goals as goal

pub advance-requires : goal.advance-requires
advance-requires c =
    let q = c.requires.job in
    record { top = q.top; offset = q.offset; next = q.next; count = omega (arith, q.count, c.saturating_sub-count.ensures) }

pub push-requires : goal.push-requires
push-requires c =
    (keep_room c.args.job c.saturating_sub-count.ensures c.advance.ensures c.requires, search rules)

pub returns : goal.returns
returns c =
    argument_kept c.args.job c.saturating_sub-count.ensures c.advance.ensures (rw c.new.ensures at c.push.ensures)
