-- `lookup::descend` meets its contract: every rule that fits is still led to. Assumes nothing.
use Prim.Native.Nat.{◌-◌}
use Rattle.lookup.proofs.Nodes.{Down}
use Rattle.lookup.proofs.descend.Given as goal

abbrev pub invariant-loop-s : goal.invariant-loop-s
invariant-loop-s l = Down l.book l.net l.symbols l.root l.initial.s l.s

abbrev pub decreases-loop-s : goal.decreases-loop-s
decreases-loop-s l = 64 - l.s.depth
