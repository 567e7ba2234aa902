-- `book::read_rules` meets its contract. The loop's invariant: the first i rules are read, and the table holds them. Assumes nothing.
use Rattle.std.specs.Prelude.{Ok}
use Rattle.book.specs.Promises.{RulesTaken}
use Rattle.book.proofs.read_rules.Given as goal

abbrev pub invariant-loop-i : goal.invariant-loop-i
invariant-loop-i l = RulesTaken l.book l.at l.dated l.n l.operators l.i l.rules (Ok l.p)
