-- `standing::keep` meets its contract. The loop's invariant: the table has those of the first i rules that stand.
-- Assumes nothing.
use Prim.Native.Nat.{◌-◌, ◌≤◌}
use Rattle.standing.proofs.Rules.{Keeping}
use Rattle.standing.proofs.keep.Given as goal

abbrev pub invariant-loop-i : goal.invariant-loop-i
invariant-loop-i l = (l.i ≤ l.m) × Keeping l.book l.today l.initial.rules l.rules l.k l.i
