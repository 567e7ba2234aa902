-- `point_order::take_part` meets its contract. Assumes nothing.
use native.Mathlib.Omega.{arith}
use Rattle.point_order.proofs.Loops.{found_below, part_is, part_foreign, part_missing, part_found}
use Rattle.point_order.proofs.take_part.Goals as goal

pub returns-then-units-v : goal.returns-then-units-v
returns-then-units-v c =
    part_foreign _ _ _ _ c.requires.2 c.if-units-v.true

pub highest_exit-requires : goal.highest_exit-requires
highest_exit-requires c =
    omega (arith, c.base_of.ensures, c.requires.2.within c.args.v, c.requires.0.regions.bytes)

pub stands-requires : goal.stands-requires
stands-requires c =
    let f = found_below _ _ _ c.highest_exit.ensures.1 c.in-Some.is in
    (f.1, omega (arith, c.requires.0.placed c.in-Some.held.exit.unit f.1))

pub returns-in-Some : goal.returns-in-Some
returns-in-Some c =
    let f = found_below _ _ _ c.highest_exit.ensures.1 c.in-Some.is in
    part_found _ _ _ _ c.requires.2 c.in-Some.held.index c.in-Some.held.exit (omega arith) (omega arith) (omega (arith, f.0, c.requires.2.within c.args.v))
    (part_is c.args.work.now c.args.tops.now c.args.v c.base_of.result c.base_of.ensures c.highest_exit.ensures.0 c.in-Some.is)
    c.stands.ensures

pub returns-in-None : goal.returns-in-None
returns-in-None c =
    part_missing _ _ _ _ c.requires.2 (omega arith)
    (part_is c.args.work.now c.args.tops.now c.args.v c.base_of.result c.base_of.ensures c.highest_exit.ensures.0 c.in-None.is)
