-- `tables::step_at` meets its contract. Assumes nothing.
use mathlib.Core.Path.{sym}
use Rattle.tables.proofs.step_at.Goals as goal

pub returns : goal.returns
returns c = rw (sym c.index.ensures.0, sym c.index-2.ensures.0) c.step_of.ensures
