-- `apart::mark_word` meets its contract: the words have the bits of the rules before j. Assumes nothing.
use Prim.Native.Nat.{◌≤◌}
use Rattle.apart.proofs.Words.{MarkedBefore}
use Rattle.apart.proofs.mark_word.Given as goal

abbrev pub invariant-loop-j : goal.invariant-loop-j
invariant-loop-j l = (l.first ≤ l.j) × MarkedBefore l.nodes l.places l.counts l.first l.j l.holders l.sharers
