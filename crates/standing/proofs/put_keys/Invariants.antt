-- `standing::put_keys` meets its contract. The loop's invariant: the first i keys are put. Assumes nothing.
use mathlib.Core.Path.{◌≡◌}
use Prim.Native.Nat.{◌-◌, ◌≤◌}
use lib.ListN.{length}
use Rattle.standing.proofs.Rules.{KeysUpTo}
use Rattle.standing.proofs.put_keys.Given as goal

abbrev pub invariant-loop-i : goal.invariant-loop-i
invariant-loop-i l = (l.i ≤ l.m) × (length l.keys ≡ 256) × KeysUpTo l.book l.keys l.i
