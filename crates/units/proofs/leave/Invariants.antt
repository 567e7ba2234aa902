-- `units::leave` meets its contract: the loop's invariant: the cells of units 0 to u - 1 are as they should be. Assumes nothing.
use Rattle.units.proofs.Changes.{LeftBelow}
use Rattle.units.proofs.leave.Given as goal

abbrev pub invariant-loop-u : goal.invariant-loop-u
invariant-loop-u l = LeftBelow l.rank l.u l.initial.units l.units
