-- `insertion::append` meets its contract. The loop's invariant: rule s has the path of rule i. Rules are told in their order, so the measure is how many are
-- left. Assumes nothing.
use Prim.Native.Nat.{◌-◌, ◌<◌}
use Rattle.net.specs.Net.{Same}
use Rattle.insertion.proofs.append.Given as goal

abbrev pub invariant-loop-next : goal.invariant-loop-next
invariant-loop-next l = (l.s < l.j) × Same l.net l.i l.s

abbrev pub decreases-loop-next : goal.decreases-loop-next
decreases-loop-next l = l.j - l.s
