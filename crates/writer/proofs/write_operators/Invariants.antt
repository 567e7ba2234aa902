-- `writer::write_operators` meets its contract. The loop's invariant: what writes the operators that are left writes them all. Assumes nothing.
use mathlib.Core.List.{List}
use Rattle.writer.specs.Promises.{OperatorsWritten}
use mathlib.Core.Path.{◌≡◌}
use Prim.Native.Nat.{ℕ, ◌+◌, ◌*◌, ◌-◌, ◌≤◌}
use lib.ListN.{length}
use Rattle.writer.proofs.write_operators.Given as goal

abbrev pub invariant-loop-o : goal.invariant-loop-o
invariant-loop-o l =
    (l._o ≤ l.n) × (l.places.to ≤ l.to + 133 * l._o) × (length l.out ≡ length l.initial.out)
    × ((at' to' : ℕ) (out' : List ℕ) → OperatorsWritten l.book l.places.from (l.n - l._o) l.places.to l.out out' at' to' → OperatorsWritten l.book l.at l.n l.to l.initial.out out' at' to')
