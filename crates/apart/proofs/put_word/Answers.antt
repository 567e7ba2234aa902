-- Answers of `put_word`. Assumes nothing.
use mathlib.Core.Path.{◌≡◌, ◌∙◌}
use native.Mathlib.Omega.{arith}
use lib.ListN.{length-set}
use Rattle.apart.proofs.Words.{put_none, put_next}
use Rattle.apart.proofs.put_word.Goals as goal

pub loop-i-init : goal.loop-i-init
loop-i-init c = (omega arith, put_none)

pub row-requires : goal.row-requires
row-requires c =
    rw c.from-n.ensures (c.requires.0.each c.loop-i.i (omega arith))

pub loop-i-preserved : goal.loop-i-preserved
loop-i-preserved c =
    let e = rw c.from-n.ensures at c.row.ensures in
    (length-set c.loop-i.rows _ _ ∙ c.loop-i.invariant.0, put_next c.loop-i.invariant.1 c.loop-i.invariant.0 (omega arith) (omega arith) e)

pub returns : goal.returns
returns c =
    let l = c.loop-i in
    let e : l.i ≡ c.args.m = omega arith in
    (rw e at l.invariant.1, l.invariant.0)
