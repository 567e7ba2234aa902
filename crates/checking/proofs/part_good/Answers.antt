-- Answers of `part_good`. Assumes nothing.
use mathlib.Core.Path.{◌∙◌}
use Rattle.checking.proofs.Kept.{part_opened}
use Rattle.checking.proofs.part_good.Goals as goal

pub returns : goal.returns
returns c = c.is_some.ensures ∙ part_opened _ _ _ _ _ c.«open».ensures
