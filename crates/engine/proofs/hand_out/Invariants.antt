-- `engine::hand_out` meets its contract: so far the first i are copied. Assumes nothing.
use mathlib.Core.List.{◌++◌}
use mathlib.Core.Path.{◌≡◌}
use Prim.Native.Nat.{◌≤◌}
use lib.ListN.{length, take, drop}
use Rattle.symbol.specs.Record.{operators}
use Rattle.engine.proofs.hand_out.Given as goal

abbrev pub invariant-loop-i : goal.invariant-loop-i
invariant-loop-i l = (l.i ≤ l.n) × (length l.output ≡ length l.initial.output) × (l.output ≡ take l.i (operators l.symbols) ++ drop l.i l.initial.output)
