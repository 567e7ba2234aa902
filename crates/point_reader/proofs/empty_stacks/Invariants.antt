-- `point_reader::empty_stacks` meets its contract: the loop's invariant: units 0 to u - 1 have no frames. Assumes nothing.
use Rattle.point_reader.specs.Promises.{EmptyBelow}
use Rattle.point_reader.proofs.empty_stacks.Given as goal

abbrev pub invariant-loop-u : goal.invariant-loop-u
invariant-loop-u l =
    EmptyBelow l.u l.cells
