-- `point_writer::write_marks` meets its contract. The loop's invariant: what puts the marks that are left puts them all. The measure is how many are left.
-- Assumes nothing.
use mathlib.Core.List.{List}
use mathlib.Core.Path.{◌≡◌}
use Prim.Native.Nat.{ℕ, ◌+◌}
use lib.ListN.{length, take, drop}
use Rattle.paper.specs.Writer.{concat}
use Rattle.flat.specs.Form.{write_mark}
use Rattle.symbol.specs.Record.{marks}
use Rattle.point_writer.specs.Promises.{Put}
use Rattle.point_writer.proofs.write_marks.Given as goal

abbrev pub invariant-loop-x : goal.invariant-loop-x
invariant-loop-x l =
    (l.to ≡ l.at + l.x-index) × (length l.out ≡ length l.initial.out)
    × ((out' : List ℕ) (r : ℕ) → Put l.to (concat write_mark (marks (drop l.x-index (take l.n l.symbols)))) l.out out' r → Put l.at (concat write_mark (marks (take l.n l.symbols))) l.initial.out out' r)
