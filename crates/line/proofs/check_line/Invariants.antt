-- `line::check_line` meets its contract: the whole line's fault is that of the bytes to come, with the terms that are due. Assumes nothing.
use mathlib.Core.Path.{◌≡◌}
use Prim.Native.Nat.{◌+◌, ◌*◌, ◌-◌, ◌≤◌}
use lib.ListN.{length, drop}
use Rattle.tables.specs.Layout.{arity_in}
use Rattle.line.specs.Line.{fault, judgement}
use Rattle.line.proofs.check_line.Given as goal

abbrev pub invariant-loop-o : goal.invariant-loop-o
invariant-loop-o l =
    (l.due ≤ 1 + 255 * l.o-index)
    × (judgement l.n (arity_in l.operators) l.line ≡ fault l.n (arity_in l.operators) l.due (drop l.o-index l.line))
