-- Answers of `heights`. Assumes nothing.
use native.Mathlib.Omega.{arith}
use Rattle.point_order.proofs.Loops.{heights_more}
use Rattle.point_order.proofs.heights.Goals as goal

pub loop-u-init : goal.loop-u-init
loop-u-init c = (omega arith, record { eight = c.requires.0; are = λ v l. absurd (omega arith) })

pub height-requires : goal.height-requires
height-requires c = (c.loop-u-test.true, c.requires.1 _ c.loop-u-test.true)

pub loop-u-preserved : goal.loop-u-preserved
loop-u-preserved c =
    (omega arith, heights_more c.loop-u.invariant.1 c.loop-u-test.true c.height.ensures)

pub returns : goal.returns
returns c = let l = c.loop-u.invariant.1 in record { eight = l.eight; are = λ v m. l.are v (omega arith) }
