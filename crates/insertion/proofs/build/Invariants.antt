-- `insertion::build` meets its contract. The loop's invariant: the area has the net of the first j rules. The measure is how many are left. Assumes
-- nothing.
use Rattle.insertion.proofs.Books.{Building}
use Rattle.insertion.proofs.build.Given as goal

abbrev pub invariant-loop-j : goal.invariant-loop-j
invariant-loop-j l = Building l.book l.operators l.rules l.initial.net l.net l.j l.j
