-- `book::read_operators` meets its contract. The loop's invariant: the first o operators are read, and the table holds them. Assumes nothing.
use Rattle.std.specs.Prelude.{Ok}
use Rattle.book.specs.Promises.{OperatorsTaken}
use Rattle.book.proofs.read_operators.Given as goal

abbrev pub invariant-loop-o : goal.invariant-loop-o
invariant-loop-o l = OperatorsTaken l.book l.at l.o l.operators (Ok l.p)
