-- `units::frames::shift_stack` meets its contract: the loop's invariant: the frames from place at on have gone along. Assumes nothing.
use mathlib.Core.Path.{◌≡◌}
use Prim.Native.Nat.{◌+◌, ◌*◌, ◌-◌, ◌≤◌}
use Rattle.units.specs.Promises.{frames}
use Rattle.units.proofs.Stacks.{ShiftedAbove}
use Rattle.units.proofs.frames.shift_stack.Given as goal

abbrev pub invariant-loop-at : goal.invariant-loop-at
invariant-loop-at l = (l.at ≡ l.from + 3 * frames l.from l.at) × (l.at ≤ l.end) × ShiftedAbove l.at l.from (frames l.from l.end) l.a l.e l.n l.initial.work l.work

abbrev pub decreases-loop-at : goal.decreases-loop-at
decreases-loop-at l = l.at - l.from
