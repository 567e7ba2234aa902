-- `point_frames::stack_good` meets its contract: the loop's invariant: f is the frame at index h, and the stack is good exactly if it is from there down. Assumes nothing.
use mathlib.Core.List.{◌∷◌}
use mathlib.Core.Path.{◌≡◌}
use Prim.Native.Nat.{◌<◌}
use Rattle.paper.specs.Book.{Book}
use Rattle.flat.specs.Machine.{FlatState}
use Rattle.flat.specs.Tested as T
use Rattle.units.specs.Frames.{flat}
use Rattle.units.specs.Stacks.{base, stack_of, height_in, store}
use Rattle.point_frames.specs.Counting.{stack_in}
use Rattle.point_frames.specs.Promises.{Point}
use Rattle.point_frames.proofs.stack_good.Given as goal

abbrev pub invariant-loop-h : goal.invariant-loop-h
invariant-loop-h l =
    (l.h < height_in l.cells l.v)
    × ((B : Book) (s : FlatState) → Point l.operators l.symbols (store l.work l.cells) l.units B s →
    T.stack_good B s l.v (stack_in (store l.work l.cells) l.units l.v) ≡ T.stack_good B s l.v (flat l.f ∷ stack_of l.work (base l.v) l.h))
