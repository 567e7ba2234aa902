-- `writer::write_items` meets its contract. The loop's invariant: what puts the numbers that are left puts them all. Assumes nothing.
use mathlib.Core.List.{List}
use Rattle.paper.specs.Bits.{to_bits}
use Rattle.paper.specs.Writer.{concat}
use Rattle.writer.specs.Promises.{BitsPut}
use mathlib.Core.Path.{◌≡◌}
use Prim.Native.Nat.{ℕ, ◌+◌, ◌*◌, ◌-◌, ◌≤◌}
use lib.ListN.{length, take, drop}
use Rattle.writer.proofs.write_items.Given as goal

abbrev pub invariant-loop-i : goal.invariant-loop-i
invariant-loop-i l =
    (l.i ≤ l.len) × (l.to ≡ l.at + 4 * l.i) × (length l.out ≡ length l.initial.out)
    × ((out' : List ℕ) (r : ℕ) → BitsPut l.to (concat (to_bits 4) (drop l.i (take l.len l.items))) l.out out' r → BitsPut l.at (concat (to_bits 4) (take l.len l.items)) l.initial.out out' r)
