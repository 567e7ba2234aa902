-- `strategy::put_default` meets its contract. The invariant: the list is what is stored, and the numbers from the next on. Assumes nothing.
use mathlib.Core.List.{◌++◌}
use mathlib.Core.Path.{◌≡◌}
use Prim.Native.Nat.{◌-◌, ◌≤◌}
use lib.ListN.{length, take}
use Rattle.paper.specs.Strategy.{upward, default}
use Rattle.paper.specs.Writer.{numbers}
use Rattle.strategy.proofs.put_default.Given as goal

abbrev pub invariant-loop-i : goal.invariant-loop-i
invariant-loop-i l =
    (l.i ≤ l.n) × (length l.items ≡ 32) × (numbers (default l.arity) ≡ take l.i l.items ++ numbers (upward l.i (l.n - l.i)))
