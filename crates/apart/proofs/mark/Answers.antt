-- Answers of `mark`. Assumes nothing.
use mathlib.Core.Path.{refl, sym, ◌∙◌}
use native.Mathlib.Omega.{arith}
use Rattle.apart.proofs.Cells.{part_long, cell_at, node_inside, place_inside, mark_places, mark_nodes, mark_end, mark_places_end}
use Rattle.apart.proofs.mark.Goals as goal

pub loop-node-init : goal.loop-node-init
loop-node-init c = (refl, refl)

pub bounds-places-z : goal.bounds-places-z
bounds-places-z c =
    let (l, e) = cell_at c.requires c.loop-node-test.true c.from-z.ensures in
    node_inside c.requires l e

pub bounds-holders-c : goal.bounds-holders-c
bounds-holders-c c =
    let (l, e) = cell_at c.requires c.loop-node-test.true c.from-z.ensures in
    place_inside c.requires l e c.from-c.ensures

pub bounds-holders-c-in-loop-node : goal.bounds-holders-c-in-loop-node
bounds-holders-c-in-loop-node c =
    let (l, e) = cell_at c.requires c.loop-node-test.true c.from-z.ensures in
    place_inside c.requires l e c.from-c.ensures

pub bounds-sharers-z : goal.bounds-sharers-z
bounds-sharers-z c =
    let (l, e) = cell_at c.requires c.loop-node-test.true c.from-z.ensures in
    node_inside c.requires l e

pub bounds-sharers-z-in-loop-node : goal.bounds-sharers-z-in-loop-node
bounds-sharers-z-in-loop-node c =
    let (l, e) = cell_at c.requires c.loop-node-test.true c.from-z.ensures in
    node_inside c.requires l e

pub loop-node-preserved : goal.loop-node-preserved
loop-node-preserved c =
    let (l, e) = cell_at c.requires c.loop-node-test.true c.from-z.ensures in
    let i = c.loop-node in (
      i.invariant.0 ∙ mark_places c.requires c.args.bit i.node-index i.holders l e c.from-c.ensures,
      i.invariant.1 ∙ mark_nodes c.requires c.args.bit i.node-index i.sharers l e,
    )

pub returns : goal.returns
returns c =
    let l = c.loop-node in
    let p = part_long c.requires in
    (sym (l.invariant.0 ∙ mark_places_end c.requires c.args.bit l.node-index l.holders (omega arith)), sym (l.invariant.1 ∙ mark_end c.requires c.args.bit l.node-index l.sharers (omega arith)))
