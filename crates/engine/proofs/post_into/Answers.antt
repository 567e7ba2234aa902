-- `engine::post_into` meets its contract, by the laws of Runs. Assumes nothing.
use Rattle.engine.proofs.Runs.{emptied, one_term, ready, ran_first, posted}
use Rattle.engine.proofs.post_into.Goals as goal

pub load-requires : goal.load-requires
load-requires c =
    let p = c.requires in
    (p.lent.symbols_long, p.given.long, p.given.most, one_term p.opened p.given p.asked)

pub start-requires : goal.start-requires
start-requires c = let p = c.requires in record { bytes = p.asked.long; eight = p.lent.cells_long }

pub run_schedule-requires : goal.run_schedule-requires
run_schedule-requires c =
    let p = c.requires in
    let r = ready p.opened p.given p.asked c.load.ensures c.start.ensures (emptied c.args.order.now p.lent.order_long) _ p.lent.scratch_long in
    record { arrays = r.0; runnable = r.1 }

pub returns : goal.returns
returns c =
    let p = c.requires in
    let ran = ran_first p.opened p.given p.asked c.load.ensures c.start.ensures (emptied c.args.order.now p.lent.order_long) c.run_schedule.ensures in
    record { posted = posted p.opened p.given p.asked ran; ran = ran }
