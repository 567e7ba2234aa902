-- `engine::resume` meets its contract, by the laws of Runs. Assumes nothing.
use Rattle.engine.proofs.Runs.{resumable}
use Rattle.engine.proofs.resume.Goals as goal

pub run_schedule-requires : goal.run_schedule-requires
run_schedule-requires c =
    let p = c.requires in
    record { arrays = p.arrays; runnable = resumable p.opened p.point_rules p.asked }

pub returns : goal.returns
returns c = c.run_schedule.ensures
