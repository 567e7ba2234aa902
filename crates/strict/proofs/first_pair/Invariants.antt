-- `strict::first_pair` meets its contract. The loop's invariant: the rules from i on decide. The measure is how many are left. Assumes nothing.
use Rattle.strict.proofs.Rules.{Decides}
use Rattle.strict.proofs.first_pair.Given as goal

abbrev pub invariant-loop-i : goal.invariant-loop-i
invariant-loop-i l = Decides l.rows l.m l.i
