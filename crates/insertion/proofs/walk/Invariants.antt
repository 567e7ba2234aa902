-- `insertion::walk` meets its contract. The loop's invariant: rule j has reached a depth of a rule's path. The measure is how deep it may still go.
-- Assumes nothing.
use Prim.Native.Nat.{◌-◌}
use Rattle.net.specs.Net.{book_by}
use Rattle.insertion.proofs.Walks.{Reached}
use Rattle.insertion.proofs.walk.Given as goal

abbrev pub invariant-loop-due : goal.invariant-loop-due
invariant-loop-due l = Reached l.book l.operators l.net (book_by l.book l.net).rules l.j l.rule l.depth l.at l.due

abbrev pub decreases-loop-due : goal.decreases-loop-due
decreases-loop-due l = 64 - l.depth
