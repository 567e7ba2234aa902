-- Answers of `read_placed`. Assumes nothing.
use native.Mathlib.Omega.{arith}
use Rattle.bits.proofs.Reading.{got, ran_out}
use Rattle.point_reader.proofs.Order.{ordering_start, ordering_more, ordering_out, ordering_all}
use Rattle.point_reader.proofs.read_placed.Goals as goal

pub loop-i-init : goal.loop-i-init
loop-i-init c = ordering_start c.requires.2

pub returns-in_err-v : goal.returns-in_err-v
returns-in_err-v c =
    rw c.from_residual.ensures (ordering_out c.loop-i.invariant c.loop-i-test.true (ran_out c.field.ensures c.in_err-v.was))

pub loop-i-preserved : goal.loop-i-preserved
loop-i-preserved c =
    ordering_more c.loop-i.invariant _ _ _ (got c.field.ensures c.in_ok-v.was).is (omega (arith, c.loop-i-test.true)) c.requires.1

pub returns : goal.returns
returns c = ordering_all c.loop-i.invariant (omega (arith, c.loop-i-test.false))
