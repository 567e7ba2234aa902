-- `point_frames::tally::distinct` meets its contract: the loop's invariant: all offsets pass exactly if those below x do. Assumes nothing.
use mathlib.Core.Path.{◌≡◌}
use Prim.Native.Nat.{◌≤◌}
use lib.Dec.{leb}
use lib.ListN.{get_or}
use Rattle.flat.specs.Tested.{each_below}
use Rattle.point_frames.proofs.tally.distinct.Given as goal

abbrev pub invariant-loop-x : goal.invariant-loop-x
invariant-loop-x l = (l.x ≤ l.n) × (each_below (λ y. leb (get_or l.jobs y 0) 1) l.n ≡ each_below (λ y. leb (get_or l.jobs y 0) 1) l.x)
