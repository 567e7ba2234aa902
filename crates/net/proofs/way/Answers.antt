-- Answers of `way`. Assumes nothing.
use mathlib.Core.Path.{◌≡◌, sym, ap, ◌∙◌}
use Prim.Native.Nat.{suc, ◌≤◌}
use native.Mathlib.Omega.{arith}
use Rattle.net.specs.Layout.{cell, number}
use Rattle.net.proofs.Ways.{from_head, seek_none, found, further}
use Rattle.net.proofs.way.Goals as goal

pub loop-next-init : goal.loop-next-init
loop-next-init c =
    let e = c.rule-next.ensures in (
      from_head _ c.args.i c.args.d c.args.k c.requires.3 (number c.rule-next.result) e.1
          (e.0 ∙ ap (cell c.args.net.now 4) c.bucket.ensures.0),
      e.1,
    )

pub returns-then-leaves : goal.returns-then-leaves
returns-then-leaves c =
    let i = rw c.in-Some.is at c.loop-next.invariant in (
      found _ c.args.i c.args.d c.args.k c.requires.3 _ (suc c.in-Some.j) c.in-Some.j _ (omega arith) (omega arith)
          c.leaves.ensures c.if-leaves.true i.0,
      i.1,
    )

-- the next number is lower
pub loop-next-smaller : goal.loop-next-smaller
loop-next-smaller c =
    let i = rw c.in-Some.is at c.loop-next.invariant in
    let e : number c.loop-next.next ≡ suc c.in-Some.j = ap number c.in-Some.is in
    let h : cell c.args.net.now 5 c.in-Some.j ≤ c.in-Some.j = c.requires.3 c.in-Some.j (omega arith) in
    omega (arith, c.rule-next-in-Some.ensures.0)

pub loop-next-preserved : goal.loop-next-preserved
loop-next-preserved c =
    let i = rw c.in-Some.is at c.loop-next.invariant in
    let e = c.rule-next-in-Some.ensures in (
      further _ c.args.i c.args.d c.args.k c.requires.3 _ (suc c.in-Some.j) c.in-Some.j (number c.rule-next-in-Some.result) _ (omega arith) i.1 (omega arith)
          c.leaves.ensures c.if-leaves.false e.0 i.0,
      e.1,
    )

pub returns : goal.returns
returns c =
    let i = rw c.in_default.is at c.loop-next.invariant in
    (sym (i.0 ∙ seek_none c.args.net.now 0 c.args.i c.args.d c.args.k), omega arith)
