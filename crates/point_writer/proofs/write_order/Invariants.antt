-- `point_writer::write_order` meets its contract. The loop's invariant: what puts the units of the k earliest parts puts them all. The measure is k. Assumes nothing.
use mathlib.Core.List.{List}
use mathlib.Core.Path.{◌≡◌}
use Prim.Native.Nat.{ℕ, ◌+◌, ◌*◌, ◌≤◌, ◌<◌}
use lib.ListN.{length}
use Rattle.paper.specs.Bits.{to_bits}
use Rattle.paper.specs.Sound.{All}
use Rattle.paper.specs.Writer.{concat}
use Rattle.placing.specs.Order.{latest_first}
use Rattle.point_writer.specs.Promises.{Put}
use Rattle.point_writer.proofs.write_order.Given as goal

abbrev pub invariant-loop-k : goal.invariant-loop-k
invariant-loop-k l =
    (l.k ≤ l.initial.k) × (l.to + 3 * l.k ≡ l.initial.to + 3 * l.initial.k) × (length l.out ≡ length l.initial.out) × All (λ v. v < 8) (latest_first l.order l.k)
    × ((out' : List ℕ) (r : ℕ) → Put l.to (concat (to_bits 3) (latest_first l.order l.k)) l.out out' r → Put l.initial.to (concat (to_bits 3) (latest_first l.order l.initial.k)) l.initial.out out' r)
