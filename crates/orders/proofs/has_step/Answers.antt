-- `orders::has_step` meets its contract: by what the table answers. Assumes nothing.
use Rattle.orders.proofs.Steps.{none_here, some_here}
use Rattle.orders.proofs.has_step.Goals as goal
use Rattle.orders.proofs.has_step.Goals.{in-None, in_default}

pub returns : goal.returns
returns c =
    elim c.match-matches.branch [
      | in-None w ↦ rw w.matches-is (none_here c.requires.1 _ c.requires.0 _ c.step_at.ensures w.in-None.is)
      | in_default w ↦ rw w.matches-is (some_here c.requires.1 _ c.requires.0 c.step_at.result c.step_at.ensures w.in_default.not-None)
    ]
