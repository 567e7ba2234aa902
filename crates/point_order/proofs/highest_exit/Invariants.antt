-- `point_order::highest_exit` meets its contract: the highest EXIT of the h frames is that of the lowest k. Assumes nothing.
use mathlib.Core.Path.{◌≡◌}
use Prim.Native.Nat.{◌≤◌}
use Rattle.units.specs.Stacks.{stack_of}
use Rattle.point_order.specs.Passing.{highest_exit}
use Rattle.point_order.proofs.highest_exit.Given as goal

abbrev pub invariant-loop-k : goal.invariant-loop-k
invariant-loop-k l = (l.k ≤ l.h) × (highest_exit (stack_of l.work l.from l.h) ≡ highest_exit (stack_of l.work l.from l.k))
