-- `strategy::read_strategy` meets its contract, by the laws of Reading. Assumes nothing.
use native.Mathlib.Omega.{arith}
use Rattle.refusal.proofs.Passing.{passed_up}
use Rattle.reader.proofs.Reading.{got, ran_out}
use Rattle.strategy.proofs.Reading.{read_out, read_default, read_list}
use Rattle.strategy.proofs.read_strategy.Goals as goal

pub returns-in_err-given : goal.returns-in_err-given
returns-in_err-given c =
    rw (passed_up c.from_residual.result c.from_residual.ensures.1)
    (read_out _ _ _ c.requires.1 _ _ c.requires.2 (ran_out c.field.ensures c.in_err-given.was))

pub returns-then-given-eq0 : goal.returns-then-given-eq0
returns-then-given-eq0 c =
    let g = got c.field.ensures c.in_ok-given.was in
    let k = c.put_default in
    read_default _ _ _ c.requires.1 _ _ g.is _ _ c.if-given-eq0.true (omega (arith, k.ensures.1)) k.ensures.0

pub returns : goal.returns
returns c =
    let g = got c.field.ensures c.in_ok-given.was in
    read_list _ _ _ c.requires.1 _ _ g.is _ _ c.if-given-eq0.false c.read_given.ensures
