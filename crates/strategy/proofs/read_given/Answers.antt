-- `strategy::read_given` meets its contract, by the laws of Reading. Assumes nothing.
use native.Mathlib.Omega.{arith}
use Rattle.bits.proofs.Reading.{got_as}
use Rattle.refusal.proofs.Passing.{passed_up}
use Rattle.reader.proofs.Reading.{got, ran_out}
use Rattle.strategy.proofs.Reading.{read_given_out, read_given_refused, read_given_read}
use Rattle.strategy.proofs.read_given.Goals as goal

pub returns-in_err-count : goal.returns-in_err-count
returns-in_err-count c =
    rw (passed_up c.from_residual.result c.from_residual.ensures.1)
    (read_given_out _ _ _ c.requires.1 _ _ c.requires.2 (ran_out c.field.ensures c.in_err-count.was))

pub read_numbers-requires : goal.read_numbers-requires
read_numbers-requires c =
    (c.requires.0, omega (arith, (got c.field.ensures c.in_ok-count.was).small), c.requires.2)

pub settle-requires : goal.settle-requires
settle-requires c =
    (c.read_numbers.ensures.long, omega (arith, (got c.field.ensures c.in_ok-count.was).small))

pub returns : goal.returns
returns c =
    let g = got_as (got c.field.ensures c.in_ok-count.was) c.offset-n.ensures.0 in
    let k = c.settle in
    read_given_read _ _ _ c.requires.1 _ _ _ _ _ g.is _ _ c.read_numbers.ensures c.in_ok-next.was
    (omega (arith, g.small, k.ensures.1)) k.ensures.0

pub returns-in_err-next : goal.returns-in_err-next
returns-in_err-next c =
    let g = got_as (got c.field.ensures c.in_ok-count.was) c.offset-n.ensures.0 in
    rw (passed_up c.from_residual-in_err-next.result c.from_residual-in_err-next.ensures.1)
    (read_given_refused _ _ _ c.requires.1 _ _ _ g.is _ _ c.read_numbers.ensures c.in_err-next.was)
