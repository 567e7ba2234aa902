-- `orders::next_count` meets its contract: the count from step k on is the count from step i on. Assumes nothing.
use mathlib.Core.Path.{◌≡◌}
use lib.ListN.{drop}
use Rattle.flat.specs.Machine.{next_count}
use Rattle.tables.specs.Layout.{steps_in}
use Rattle.orders.proofs.next_count.Given as goal

abbrev pub invariant-loop-i : goal.invariant-loop-i
invariant-loop-i l = next_count (drop l.i (steps_in l.operators l.o)) ≡ next_count (drop l.k (steps_in l.operators l.o))
