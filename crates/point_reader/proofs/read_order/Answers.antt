-- `point_reader::read_order` meets its contract, by the laws of Order. Assumes nothing.
use native.Mathlib.Omega.{arith}
use lib.ListN.{length-set}
use Rattle.bits.proofs.Reading.{got, ran_out}
use Rattle.point_reader.proofs.Order.{order_out, order_taken}
use borrow.Author.Rules.{rules}
use Rattle.point_reader.proofs.read_order.Goals as goal

pub returns-in_err-k : goal.returns-in_err-k
returns-in_err-k c = rw c.from_residual.ensures (order_out (ran_out c.field.ensures c.in_err-k.was))

pub read_placed-requires : goal.read_placed-requires
read_placed-requires c =
    (search rules, omega (arith, (got c.field.ensures c.in_ok-k.was).small, c.from.ensures), simp length-set c.requires.1)

pub returns : goal.returns
returns c = order_taken c.args.order.now (got c.field.ensures c.in_ok-k.was) c.requires.1 c.from.ensures c.read_placed.ensures
