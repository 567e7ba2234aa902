-- `point_reader::read_marks` meets its contract: the loop's invariant: the first i marks are read. Assumes nothing.
use Rattle.point_reader.proofs.Term.{Marking}
use Rattle.point_reader.proofs.read_marks.Given as goal

abbrev pub invariant-loop-i : goal.invariant-loop-i
invariant-loop-i l =
    Marking l.bytes l.at l.m l.i l.p l.initial.symbols l.symbols
