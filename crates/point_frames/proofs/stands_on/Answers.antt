-- `point_frames::stands_on` meets its contract: by the frame. Assumes nothing.
use Rattle.units.specs.Frames.{flat}
use Rattle.point_frames.proofs.Standing.{stands_job, stands_exit, stands_other}
use Rattle.point_frames.proofs.stands_on.Goals as goal

pub holds-requires : goal.holds-requires
holds-requires c = let p = c.requires in (p.0.term, p.1)

pub returns-in-Job : goal.returns-in-Job
returns-in-Job c =
    let a = c.args in
    let x = c.in-Job.job in
    rw c.in-Job.is (stands_job x.offset x.next x.count _ (flat a.below) c.offset-a.ensures.0 c.carries.ensures)

pub returns-in-Exit : goal.returns-in-Exit
returns-in-Exit c =
    let x = c.in-Exit.field-0 in rw c.in-Exit.is (stands_exit x.unit x.index (flat c.args.below) c.holds.ensures)

pub returns-in_default : goal.returns-in_default
returns-in_default c = let a = c.args in stands_other a.f (flat a.below) c.in_default.not-Job c.in_default.not-Exit
