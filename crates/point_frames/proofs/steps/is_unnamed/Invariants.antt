-- `point_frames::steps::is_unnamed` meets its contract: the loop's invariant: the steps from step k on name the argument exactly if those from step i on do. Assumes nothing.
use mathlib.Core.Path.{◌≡◌}
use lib.ListN.{drop}
use Rattle.flat.specs.Tested.{unnamed}
use Rattle.tables.specs.Layout.{steps_in}
use Rattle.point_frames.proofs.steps.is_unnamed.Given as goal

abbrev pub invariant-loop-i : goal.invariant-loop-i
invariant-loop-i l = unnamed l.x (drop l.k (steps_in l.operators l.o)) ≡ unnamed l.x (drop l.i (steps_in l.operators l.o))
