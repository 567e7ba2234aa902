-- `writer::rules_end` meets its contract. The loop's invariant: where the rules that are left end, all end.
-- Assumes nothing.
use Rattle.writer.specs.Promises.{RulesEnd}
use Prim.Native.Nat.{ℕ, ◌-◌, ◌≤◌}
use Rattle.writer.proofs.rules_end.Given as goal

abbrev pub invariant-loop-i : goal.invariant-loop-i
invariant-loop-i l =
    (l._i ≤ l.m) × ((end : ℕ) → RulesEnd l.book l.p l.day l.n l.operators (l.m - l._i) end → RulesEnd l.book l.at l.day l.n l.operators l.m end)
