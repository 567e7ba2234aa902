-- `records::put_term` meets its contract: so far the first i are copied. Assumes nothing.
use mathlib.Core.Path.{◌≡◌}
use lib.ListN.{take}
use lib.Seq.{paste}
use Rattle.symbol.specs.Record.{operators}
use Rattle.records.proofs.put_term.Given as goal

abbrev pub invariant-loop-i : goal.invariant-loop-i
invariant-loop-i l = l.answers ≡ paste l.initial.answers l.at (operators (take l.n l.symbols)) l.i
