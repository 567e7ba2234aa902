-- `strict::has_constant` meets its contract. The loop's invariant: the operators from o on decide. The measure is how many are left. Assumes nothing.
use mathlib.Core.List.{List}
use mathlib.Core.Path.{◌≡◌}
use lib.ListN.{drop}
use Rattle.paper.specs.Book.{Operator}
use Rattle.paper.specs.Strict.{has_constant}
use Rattle.side.specs.Promises.{AritiesIn}
use Rattle.strict.proofs.has_constant.Given as goal

abbrev pub invariant-loop-o : goal.invariant-loop-o
invariant-loop-o l = (ops : List Operator) → AritiesIn ops l.n l.operators → has_constant ops ≡ has_constant (drop l.o ops)
