-- `units::shift_units` meets its contract: the loop's invariant: the offsets of units 0 to u - 1 have moved. Assumes nothing.
use Rattle.units.specs.Stacks.{store}
use Rattle.units.proofs.Loops.{ShiftedBelow}
use Rattle.units.proofs.shift_units.Given as goal

abbrev pub invariant-loop-u : goal.invariant-loop-u
invariant-loop-u l = ShiftedBelow l.u l.a l.e l.k (store l.initial.work l.units) l.work
