-- `units::wake_unit` meets its contract: the unit leaves the queue, and nothing changes if it stands in none. Assumes nothing.
use native.Mathlib.Omega.{arith}
use Rattle.units.proofs.Changes.{left_as, left_none}
use Rattle.units.proofs.wake_unit.Goals as goal

pub returns-then-rank-ne0 : goal.returns-then-rank-ne0
returns-then-rank-ne0 c = left_as c.rank_of-rank.ensures.0 c.leave.ensures

pub returns-else-rank-ne0 : goal.returns-else-rank-ne0
returns-else-rank-ne0 c = left_none _ (omega (arith, c.rank_of-rank.ensures.0, c.if-rank-ne0.false))
