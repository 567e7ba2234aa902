-- `point_reader::read_symbols` meets its contract: the loop's invariant: the first i symbols are read. Assumes nothing.
use Rattle.point_reader.proofs.Term.{Listing}
use Rattle.point_reader.proofs.read_symbols.Given as goal

abbrev pub invariant-loop-i : goal.invariant-loop-i
invariant-loop-i l =
    Listing l.bytes l.at l.i l.p l.line
