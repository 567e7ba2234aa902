-- Answers of `read_rest`. Assumes nothing.
use Rattle.refusal.proofs.Passing.{passed_up}
use Rattle.side.proofs.Sides.{rest_done, rest_full, rest_refused, rest_took}
use Rattle.std.proofs.Common.{refl, arith}
use Rattle.side.proofs.read_rest.Goals as goal

pub loop-free-init : goal.loop-free-init
loop-free-init c = (omega arith, λ r q. q)

pub returns-then-owed-eq0 : goal.returns-then-owed-eq0
returns-then-owed-eq0 c = c.loop-free.invariant.1 _ (rest_done _ _ _ _ _ _ _ _ c.if-owed-eq0.true)

pub returns-in_err-taken : goal.returns-in_err-taken
returns-in_err-taken c =
    rw (passed_up c.from_residual.result c.from_residual.ensures.1)
    (c.loop-free.invariant.1 _ (rest_refused _ _ _ _ _ _ _ _ _ c.if-owed-eq0.false c.loop-free-test.true c.in_err-taken.ensures))

pub overflow_add-owed : goal.overflow_add-owed
overflow_add-owed c =
    let s = c.in_ok-taken.ensures.small in
    omega arith

pub loop-free-preserved : goal.loop-free-preserved
loop-free-preserved c =
    let s = c.in_ok-taken.ensures in
    let b = s.small in (
      omega arith,
      λ r q. c.loop-free.invariant.1 r (rest_took _ _ _ _ _ _ _ _ _ _ _ r c.if-owed-eq0.false c.loop-free-test.true s refl refl q),
    )

pub returns-then-owed-eq0-2 : goal.returns-then-owed-eq0-2
returns-then-owed-eq0-2 c = c.loop-free.invariant.1 _ (rest_done _ _ _ _ _ _ _ _ c.if-owed-eq0-2.true)

pub returns-else-owed-eq0-2 : goal.returns-else-owed-eq0-2
returns-else-owed-eq0-2 c = c.loop-free.invariant.1 _ (rest_full _ _ _ _ _ _ _ _ c.if-owed-eq0-2.false (omega arith))
