-- `point_frames::is_lowest` meets its contract: by the frame. Assumes nothing.
use Rattle.point_frames.proofs.Standing.{last_sleep, last_bingo, last_other}
use Rattle.point_frames.proofs.is_lowest.Goals as goal

pub returns-in-Sleep : goal.returns-in-Sleep
returns-in-Sleep c B s = rw c.in-Sleep.is (last_sleep B s _)

pub returns-in-Bingo : goal.returns-in-Bingo
returns-in-Bingo c B s = rw c.in-Bingo.is (last_bingo B s _)

pub returns-in_default : goal.returns-in_default
returns-in_default c B s = last_other B s _ c.args.f c.in_default.not-Sleep c.in_default.not-Bingo
