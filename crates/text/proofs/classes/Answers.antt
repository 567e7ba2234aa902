-- `text::classes` meets its contract: the table's rule is one test, which antt computes. Assumes nothing.
use mathlib.Core.Path.{refl}
use Rattle.paper.specs.Text.{class}
use Rattle.text.proofs.Table.{classed}
use Rattle.text.proofs.classes.Goals as goal

pub returns : goal.returns
unfolding class
returns c = classed _ refl
