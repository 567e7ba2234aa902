-- `units::frames::is_zero_at` meets its contract: the frame's kind and its high byte decide. Assumes nothing.
use Rattle.units.proofs.frames.is_zero_at.Goals as goal

pub returns : goal.returns
returns c = c.zero_count.ensures _
