-- `point_rules::meets` meets its contract: one test after another. Assumes nothing.
use native.Mathlib.Omega.{arith}
use Rattle.point_frames.proofs.Books.{standing_term, standing_units}
use Rattle.point_order.proofs.Books.{standing_readable}
use Rattle.point_rules.proofs.Rules.{over_budget, frames_break, order_breaks, queue_says}
use Rattle.point_rules.proofs.meets.Goals as goal

pub returns-then-x : goal.returns-then-x
returns-then-x c = over_budget c.if-x.true

pub frames_good-requires : goal.frames_good-requires
frames_good-requires c =
    let p = c.requires.is in
    (standing_term p.tables p.standing, standing_units p.tables p.standing)

pub returns-then-not-frames_good : goal.returns-then-not-frames_good
returns-then-not-frames_good c = frames_break c.if-x.false c.frames_good.ensures c.if-not-frames_good.true

pub returns-then-not-order_good : goal.returns-then-not-order_good
returns-then-not-order_good c =
    order_breaks c.if-x.false c.frames_good.ensures c.if-not-frames_good.false c.order_good.ensures c.if-not-order_good.true

pub ranks_good-requires : goal.ranks_good-requires
ranks_good-requires c =
    let p = c.requires.is in
    (standing_readable p.tables p.standing, p.standing.fit, omega (arith, p.standing.few_units))

pub returns : goal.returns
returns c =
    queue_says c.if-x.false c.frames_good.ensures c.if-not-frames_good.false c.order_good.ensures c.if-not-order_good.false
    c.ranks_good.ensures
