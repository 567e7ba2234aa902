-- `strict::is_linear` meets its contract: an answer for the symbols to come is one for all. Assumes nothing.
use mathlib.Core.Bool.{Bool}
use Prim.Native.Nat.{◌+◌, ◌*◌, ◌≤◌}
use Rattle.strict.specs.Promises.{RestLinear}
use Rattle.strict.proofs.is_linear.Given as goal

abbrev pub invariant-loop-due : goal.invariant-loop-due
invariant-loop-due l =
    (l.due + 255 * l.room ≤ 16321) × ((r : Bool) → RestLinear l.book l.p l.operators l.met l.due l.room r → RestLinear l.book l.at l.operators 0 1 64 r)

abbrev pub decreases-loop-due : goal.decreases-loop-due
decreases-loop-due l = l.room
