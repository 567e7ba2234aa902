-- `point_order::stands` meets its contract. Assumes nothing.
use Rattle.point_order.proofs.Loops.{stands_below, stands_whole}
use Rattle.point_order.proofs.stands.Goals as goal

pub returns-then-offset-top : goal.returns-then-offset-top
returns-then-offset-top c =
    let a = c.args in
    stands_below a.cells.now a.tops.now _ _ _ _ c.index-w.ensures.0 c.offset.ensures.0 c.if-offset-top.true

pub height-requires : goal.height-requires
height-requires c =
    rw c.index-w.ensures.0 c.requires

pub returns : goal.returns
returns c =
    let a = c.args in
    stands_whole a.cells.now a.tops.now _ _ _ _ c.index-w.ensures.0 c.offset.ensures.0 c.if-offset-top.false _ c.height.ensures
