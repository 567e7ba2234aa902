-- `fill::decode` meets its contract: the codes read by then and those of the symbols to come are the whole. Assumes nothing.
use mathlib.Core.Path.{◌≡◌}
use Prim.Native.Nat.{◌+◌, ◌*◌, ◌≤◌}
use lib.ListN.{length}
use Rattle.fill.proofs.Decoding.{Decoding}
use Rattle.fill.proofs.decode.Given as goal

abbrev pub invariant-loop-n : goal.invariant-loop-n
invariant-loop-n l =
    (l.due ≤ 1 + 255 * l.n) × (length l.codes ≡ 64) × Decoding l.book l.at l.operators l.p l.due l.n l.codes
