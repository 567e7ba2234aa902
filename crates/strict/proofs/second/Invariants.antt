-- `strict::second` meets its contract. The loop's invariant: the rules from j on decide. The measure is how many are left. Assumes nothing.
use mathlib.Core.List.{List}
use mathlib.Core.Path.{◌≡◌}
use Prim.Native.Nat.{◌+◌, ◌<◌}
use lib.ListN.{length, drop}
use Rattle.paper.specs.Book.{Rule}
use Rattle.paper.specs.Strict.{overlap_with}
use Rattle.tables.specs.Tables.{rule_at}
use Rattle.apart.specs.Rows.{Rows}
use Rattle.strict.proofs.second.Given as goal

abbrev pub invariant-loop-j : goal.invariant-loop-j
invariant-loop-j l =
    (l.i < l.j) × ((rs : List Rule) → Rows rs l.rows → length rs ≡ l.m →
    overlap_with (rule_at rs l.i).left (l.i + 1) (drop (l.i + 1) rs) ≡ overlap_with (rule_at rs l.i).left l.j (drop l.j rs))
