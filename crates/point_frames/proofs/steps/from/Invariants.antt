-- `point_frames::steps::from` meets its contract: the loop's invariant: r is of the steps from step i on. Assumes nothing.
use mathlib.Core.Path.{◌≡◌}
use Prim.Native.Nat.{◌≤◌}
use lib.ListN.{drop}
use Rattle.tables.specs.Layout.{steps_in}
use Rattle.point_frames.specs.Steps.{Told}
use Rattle.point_frames.proofs.steps.from.Given as goal

abbrev pub invariant-loop-i : goal.invariant-loop-i
invariant-loop-i l = (l.i ≤ 16) × (16 ≤ l.k → l.i ≡ 16) × (l.k ≤ 16 → l.k ≤ l.i) × Told (drop l.i (steps_in l.operators l.o)) l.r
