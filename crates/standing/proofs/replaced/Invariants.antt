-- `standing::replaced` meets its contract. The loop's invariant: the rules from j on decide. Assumes nothing.
use mathlib.Core.Path.{◌≡◌}
use Prim.Native.Nat.{◌-◌}
use lib.ListN.{take, drop}
use Rattle.paper.specs.Dated as P
use Rattle.standing.specs.Dates.{left_at, rules_of}
use Rattle.standing.proofs.replaced.Given as goal

abbrev pub invariant-loop-j : goal.invariant-loop-j
invariant-loop-j l =
    P.replaced l.first l.last (left_at (rules_of l.book) l.i) (drop l.from (take l.to (rules_of l.book)))
    ≡ P.replaced l.first l.last (left_at (rules_of l.book) l.i) (drop l.j (take l.to (rules_of l.book)))
