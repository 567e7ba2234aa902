-- `strategy::put_codes` meets its contract. The invariant: the codes left are to be stored from the present place on. Assumes nothing.
use mathlib.Core.Bool.{false}
use Prim.Native.Nat.{◌-◌, ◌≤◌}
use Rattle.strategy.specs.Codes.{codes}
use Rattle.strategy.proofs.Codes.{CodesLeft}
use Rattle.strategy.proofs.put_codes.Given as goal

abbrev pub invariant-loop-i : goal.invariant-loop-i
invariant-loop-i l =
    (l.i ≤ l.len) × (l.forks ≤ l.i) × CodesLeft (codes false 0 l.len l.items) l.initial.operators l.base l.items (l.len - l.i) l.i l.grouped l.forks l.operators l.at
