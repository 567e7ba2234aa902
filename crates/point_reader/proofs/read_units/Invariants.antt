-- `point_reader::read_units` meets its contract: the loop's invariant: the first u units are read. Assumes nothing.
use mathlib.Core.Path.{◌≡◌}
use lib.ListN.{length}
use Rattle.units.specs.Stacks.{store}
use Rattle.point_reader.proofs.Units.{Uniting}
use Rattle.point_reader.proofs.read_units.Given as goal

abbrev pub invariant-loop-u : goal.invariant-loop-u
invariant-loop-u l =
    (length l.work ≡ length l.initial.work) × Uniting l.bytes l.at l.u l.p (store l.work l.cells)
