-- `standing::alike` meets its contract. The loop's invariant: what is left of the two sides decides. The measure is what is left of the first one's bits.
-- Assumes nothing.
use Prim.Native.Nat.{◌-◌}
use Rattle.paper.specs.Naming as N
use Rattle.standing.specs.Dates.{left_at, rules_of}
use Rattle.standing.proofs.Walk.{Walk}
use Rattle.standing.proofs.alike.Given as goal

abbrev pub invariant-loop-at : goal.invariant-loop-at
invariant-loop-at l =
    Walk l.book l.at l.end l.other l.names l.others l.met (N.alike (left_at (rules_of l.book) l.i) (left_at (rules_of l.book) l.j))

abbrev pub decreases-loop-at : goal.decreases-loop-at
decreases-loop-at l = l.end - l.at
