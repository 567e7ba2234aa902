-- `writer::copy` meets its contract. The loop's invariant: what puts the bits that are left puts them all. The measure is how many are left.
-- Assumes nothing.
use mathlib.Core.List.{List}
use Rattle.side.specs.Promises.{bits_at}
use Rattle.writer.specs.Promises.{BitsPut}
use mathlib.Core.Path.{◌≡◌}
use Prim.Native.Nat.{ℕ, ◌+◌, ◌*◌, ◌-◌, ◌≤◌}
use lib.ListN.{length, take}
use Rattle.writer.proofs.copy.Given as goal

abbrev pub invariant-loop-left : goal.invariant-loop-left
invariant-loop-left l =
    (l.left ≤ 8 * length l.book - l.p) × (l.q + l.left ≤ l.to + l.k) × (length l.out ≡ length l.initial.out)
    × ((out' : List ℕ) (r : ℕ) → BitsPut l.q (take l.left (bits_at l.book l.p)) l.out out' r → BitsPut l.to (take l.k (bits_at l.book l.from)) l.initial.out out' r)

abbrev pub decreases-loop-left : goal.decreases-loop-left
decreases-loop-left l = l.left
