-- `point_writer::write_stack` meets its contract. The loop's invariant: what puts the frames that are left, the k lowest, puts them all. The measure is how many are
-- left. Assumes nothing.
use mathlib.Core.List.{List}
use mathlib.Core.Path.{◌≡◌}
use Prim.Native.Nat.{ℕ, ◌+◌, ◌*◌, ◌≤◌}
use lib.ListN.{length}
use Rattle.paper.specs.Sound.{All}
use Rattle.paper.specs.Writer.{concat}
use Rattle.flat.specs.Form.{write_frame}
use Rattle.units.specs.Stacks.{stack_of}
use Rattle.point_writer.specs.Promises.{Put, FrameFitsFields}
use Rattle.point_writer.proofs.write_stack.Given as goal

abbrev pub invariant-loop-k : goal.invariant-loop-k
invariant-loop-k l =
    (l.k ≤ l.h) × (l.to + 19 * l.k ≤ l.at + 19 * l.h) × (length l.out ≡ length l.initial.out) × All FrameFitsFields (stack_of l.work l.from l.k)
    × ((out' : List ℕ) (r : ℕ) → Put l.to (concat write_frame (stack_of l.work l.from l.k)) l.out out' r → Put l.at (concat write_frame (stack_of l.work l.from l.h)) l.initial.out out' r)
