-- `point_reader::read_stack` meets its contract: the loop's invariant: all but the lowest `left` frames are read. Assumes nothing.
use Rattle.point_reader.proofs.Units.{Stacking}
use Rattle.point_reader.proofs.read_stack.Given as goal

abbrev pub invariant-loop-left : goal.invariant-loop-left
invariant-loop-left l =
    Stacking l.bytes l.at l.h l.base l.left l.p l.initial.work l.work
