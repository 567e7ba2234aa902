-- `point_writer::write_units` meets its contract. The loop's invariant: what puts the units that are left puts them all. The measure is how many are left.
-- Assumes nothing.
use mathlib.Core.List.{List}
use mathlib.Core.Path.{◌≡◌}
use Prim.Native.Nat.{ℕ, ◌+◌, ◌*◌, ◌-◌, ◌≤◌}
use lib.ListN.{length}
use Rattle.paper.specs.Sound.{All}
use Rattle.paper.specs.Writer.{concat}
use Rattle.flat.specs.Form.{write_unit}
use Rattle.units.specs.Stacks.{units_from, units_of}
use Rattle.point_writer.specs.Promises.{Put, UnitFitsFields}
use Rattle.point_writer.proofs.write_units.Given as goal

abbrev pub invariant-loop-u : goal.invariant-loop-u
invariant-loop-u l =
    (l.u ≤ l.n) × (l.to ≤ l.at + 19508 * l.u) × (length l.out ≡ length l.initial.out) × All UnitFitsFields (units_from l.work l.cells l.u (l.n - l.u))
    × ((out' : List ℕ) (r : ℕ) → Put l.to (concat write_unit (units_from l.work l.cells l.u (l.n - l.u))) l.out out' r → Put l.at (concat write_unit (units_of l.work l.cells l.n)) l.initial.out out' r)
