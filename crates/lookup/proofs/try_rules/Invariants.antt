-- `lookup::try_rules` meets its contract: the rules of the path before the one at hand differ. Assumes nothing.
use Rattle.net.specs.Layout.{number}
use Rattle.lookup.proofs.Rules.{ahead, Reached}
use Rattle.lookup.proofs.try_rules.Given as goal

abbrev pub invariant-loop-next : goal.invariant-loop-next
invariant-loop-next l = Reached l.book l.operators l.net l.symbols l.offset l.i (number l.next)

abbrev pub decreases-loop-next : goal.decreases-loop-next
decreases-loop-next l = ahead (number l.next)
