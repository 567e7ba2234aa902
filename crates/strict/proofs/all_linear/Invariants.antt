-- `strict::all_linear` meets its contract. The loop's invariant: the rules from i on decide. The measure is how many are left. Assumes nothing.
use mathlib.Core.Path.{◌≡◌}
use lib.ListN.{drop}
use Rattle.paper.specs.Strict.{all_linear}
use Rattle.tables.specs.Tables.{book_of}
use Rattle.strict.proofs.all_linear.Given as goal

abbrev pub invariant-loop-i : goal.invariant-loop-i
invariant-loop-i l = all_linear (book_of l.book l.rules).rules ≡ all_linear (drop l.i (book_of l.book l.rules).rules)
