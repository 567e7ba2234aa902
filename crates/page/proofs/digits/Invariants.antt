-- `page::digits` meets its contract. The loop's invariant: the digits of what is left, put before those that stand from i on, are all digits. Assumes nothing.
use Rattle.paper.specs.Page as D
use mathlib.Core.Path.{◌≡◌}
use lib.ListN.{length, drop}
use Rattle.page.proofs.digits.Given as goal

abbrev pub invariant-loop-i : goal.invariant-loop-i
invariant-loop-i l = (length l.d ≡ 20) × (D.digits l.i l.left (drop l.i l.d) ≡ D.decimal l.v)
