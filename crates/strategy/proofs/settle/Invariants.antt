-- `strategy::settle` meets its contract. The invariant: settling the whole is settling what is left, behind what is kept. Assumes nothing.
use mathlib.Core.List.{[]}
use mathlib.Core.Path.{◌≡◌}
use Prim.Native.Nat.{◌≤◌}
use lib.ListN.{length, take, drop}
use Rattle.strategy.specs.Settling.{settling}
use Rattle.strategy.proofs.settle.Given as goal

abbrev pub invariant-loop-i : goal.invariant-loop-i
invariant-loop-i l =
    (l.i ≤ l.count) × (l.len ≤ l.i) × (l.group ≤ l.len) × (length l.items ≡ 32) × (drop l.i l.items ≡ drop l.i l.initial.items)
    × (settling [] 0 (take l.count l.initial.items) ≡ settling (take l.len l.items) l.group (drop l.i (take l.count l.initial.items)))
