-- `writer::is_default` meets its contract. The loop's invariant: the list is the default if the numbers from i on are the default's. Assumes nothing.
use Rattle.paper.specs.Strategy.{upward, default}
use Rattle.paper.specs.Writer.{numbers, same}
use mathlib.Core.Path.{◌≡◌}
use Prim.Native.Nat.{◌-◌, ◌≤◌}
use lib.ListN.{take, drop}
use Rattle.writer.proofs.is_default.Given as goal

abbrev pub invariant-loop-i : goal.invariant-loop-i
invariant-loop-i l =
    (l.i ≤ l.n) × (same (take l.len l.items) (numbers (default l.arity)) ≡ same (drop l.i (take l.len l.items)) (numbers (upward l.i (l.n - l.i))))
