-- Answers of `fill`. Assumes nothing.
use mathlib.Core.Path.{refl}
use native.Mathlib.Omega.{arith}
use Rattle.fill.proofs.Filling.{filling_starts, filling_ready, filling_went, filling_stopped, filling_ended}
use Rattle.fill.proofs.fill.Goals as goal

pub decode-n-requires : goal.decode-n-requires
decode-n-requires c = (c.requires.0.short, refl)

pub loop-i-init : goal.loop-i-init
loop-i-init c = let d = c.decode-n.ensures in (d.most, omega arith, filling_starts d c.requires.2)

pub fill_one-requires : goal.fill_one-requires
fill_one-requires c =
    let p = c.requires in
    (filling_ready c.decode-n.ensures c.loop-i.invariant.2 (omega arith) p.0 p.1.term, p.1, c.loop-i.invariant.1, p.3)

pub returns-in_err-k : goal.returns-in_err-k
returns-in_err-k c =
    rw c.from_residual.ensures (filling_stopped c.decode-n.ensures c.loop-i.invariant.2 (omega arith) c.in_err-k.ensures)

pub loop-i-preserved : goal.loop-i-preserved
loop-i-preserved c =
    let s = c.in_ok-k.ensures in
    (omega arith, s.is.4, filling_went c.decode-n.ensures c.loop-i.invariant.2 (omega arith) s)

pub returns : goal.returns
returns c = let i = c.loop-i.invariant in filling_ended i.2 (omega arith) i.1
