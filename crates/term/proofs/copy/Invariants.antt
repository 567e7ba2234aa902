-- `term::copy` meets its contract: so far the first j are copied. Assumes nothing.
use mathlib.Core.Path.{◌≡◌}
use lib.ListN.{drop}
use lib.Seq.{paste}
use Rattle.term.proofs.copy.Given as goal

abbrev pub invariant-loop-j : goal.invariant-loop-j
invariant-loop-j l = l.symbols ≡ paste l.initial.symbols l.at (drop l.from l.part) l.j
