-- `fill::fill` meets its contract: the symbols from the i-th on are filled. Assumes nothing.
use Prim.Native.Nat.{◌≤◌}
use Rattle.term.specs.Present.{operators_in, marks_in}
use Rattle.rule.specs.Packed.{binding}
use Rattle.fill.proofs.Filling.{Filling}
use Rattle.fill.proofs.fill.Given as goal

abbrev pub invariant-loop-i : goal.invariant-loop-i
invariant-loop-i l =
    (l.i ≤ 64) × (l.k ≤ l.limit) × Filling l.book l.at l.operators (operators_in l.symbols) (marks_in l.symbols) (binding l.bound) l.i l.k l.scratch
