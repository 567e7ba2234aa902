-- `point_reader::read_placed` meets its contract: the loop's invariant: all but the earliest i parts are read. Assumes nothing.
use Rattle.point_reader.proofs.Order.{Ordering}
use Rattle.point_reader.proofs.read_placed.Given as goal

abbrev pub invariant-loop-i : goal.invariant-loop-i
invariant-loop-i l =
    Ordering l.bytes l.at l.k l.i l.p l.initial.order l.order
