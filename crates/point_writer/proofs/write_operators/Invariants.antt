-- `point_writer::write_operators` meets its contract. The loop's invariant: what puts the operators that are left puts them all. The measure is how many are left.
-- Assumes nothing.
use mathlib.Core.List.{List}
use mathlib.Core.Path.{◌≡◌}
use Prim.Native.Nat.{ℕ, ◌+◌, ◌*◌}
use lib.ListN.{length, take, drop}
use Rattle.paper.specs.Bits.{to_bits}
use Rattle.paper.specs.Writer.{concat}
use Rattle.symbol.specs.Record.{operators}
use Rattle.point_writer.specs.Promises.{Put}
use Rattle.point_writer.proofs.write_operators.Given as goal

abbrev pub invariant-loop-x : goal.invariant-loop-x
invariant-loop-x l =
    (l.to ≡ l.at + 8 * l.x-index) × (length l.out ≡ length l.initial.out)
    × ((out' : List ℕ) (r : ℕ) → Put l.to (concat (to_bits 8) (operators (drop l.x-index (take l.n l.symbols)))) l.out out' r →
    Put l.at (concat (to_bits 8) (operators (take l.n l.symbols))) l.initial.out out' r)
