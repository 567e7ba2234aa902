-- Answers of `append`. Assumes nothing.
use mathlib.Core.Path.{sym}
use native.Mathlib.Omega.{arith}
use Rattle.net.specs.Net.{Same}
use Rattle.net.proofs.Growing.{same_snoc}
use Rattle.insertion.proofs.Walks.{appended}
use Rattle.insertion.proofs.append.Goals as goal

pub loop-next-init : goal.loop-next-init
loop-next-init c = (c.requires.2, Same.self _)

pub loop-next-smaller : goal.loop-next-smaller
loop-next-smaller c =
    let (a, b) = c.requires.1 c.loop-next.s c.in-Some.next (omega arith) (sym c.in-Some.ensures.0) in
    omega arith

pub loop-next-preserved : goal.loop-next-preserved
loop-next-preserved c =
    let e = sym c.in-Some.ensures.0 in
    ((c.requires.1 c.loop-next.s c.in-Some.next (omega arith) e).1, same_snoc c.loop-next.invariant.1 e)

pub returns : goal.returns
returns c =
    appended c.loop-next.invariant.1 (sym c.in_default.ensures.0) (omega arith) c.put_same.ensures
