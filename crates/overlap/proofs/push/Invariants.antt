-- `overlap::push` meets its contract: the places put by then stand in front of those that were due. Assumes nothing.
use mathlib.Core.List.{◌++◌}
use mathlib.Core.Path.{◌≡◌}
use Prim.Native.Nat.{◌+◌, ◌-◌, ◌≤◌}
use lib.ListN.{length, drop}
use Rattle.overlap.specs.Trie.{upto}
use Rattle.overlap.proofs.push.Given as goal

abbrev pub invariant-loop-i : goal.invariant-loop-i
invariant-loop-i l =
    (l.i ≤ l.n) × (length l.stack ≡ 64) × (drop (l.at + l.i) l.stack ≡ upto (l.base + l.i) (l.n - l.i) ++ drop l.top l.initial.stack)
