-- `stream::put_number` meets its contract. The loop's invariant: with the first i bytes, which are those of what is left, the output has them all. Assumes nothing.
use Rattle.stream.proofs.Puts.{with_bytes}
use mathlib.Core.Path.{◌≡◌}
use Prim.Native.Nat.{◌≤◌}
use lib.ListN.{length}
use Rattle.stream.proofs.put_number.Given as goal

abbrev pub invariant-loop-i : goal.invariant-loop-i
invariant-loop-i l =
    (l.i ≤ l.n) × (length l.output ≡ length l.initial.output) × (with_bytes l.at l.i l.left l.output ≡ with_bytes l.at l.n l.v l.initial.output)
