-- Answers of `row`. Assumes nothing.
use mathlib.Core.Path.{refl, sym, ◌∙◌}
use native.Mathlib.Omega.{arith}
use Rattle.apart.proofs.Cells.{part_long, cell_at, node_inside, place_inside, differ_next, differ_end}
use Rattle.apart.proofs.row.Goals as goal

pub loop-node-init : goal.loop-node-init
loop-node-init c = refl

pub bounds-places-z : goal.bounds-places-z
bounds-places-z c =
    let (l, e) = cell_at c.requires c.loop-node-test.true c.from-z.ensures in
    node_inside c.requires l e

pub bounds-holders-c : goal.bounds-holders-c
bounds-holders-c c =
    let (l, e) = cell_at c.requires c.loop-node-test.true c.from-z.ensures in
    place_inside c.requires l e c.from-c.ensures

pub bounds-sharers-z : goal.bounds-sharers-z
bounds-sharers-z c =
    let (l, e) = cell_at c.requires c.loop-node-test.true c.from-z.ensures in
    node_inside c.requires l e

pub loop-node-preserved : goal.loop-node-preserved
loop-node-preserved c =
    let (l, e) = cell_at c.requires c.loop-node-test.true c.from-z.ensures in
    c.loop-node.invariant ∙ differ_next c.requires c.args.holders.now c.args.sharers.now c.loop-node.node-index c.loop-node.apart l e c.from-c.ensures

pub returns : goal.returns
returns c =
    let l = c.loop-node in
    sym (l.invariant ∙ differ_end c.requires c.args.holders.now c.args.sharers.now l.node-index l.apart (omega (arith, part_long c.requires)))
