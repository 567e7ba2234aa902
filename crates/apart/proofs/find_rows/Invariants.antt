-- `apart::find_rows` meets its contract: the bits before word w are found. Assumes nothing.
use mathlib.Core.Path.{◌≡◌}
use lib.ListN.{length}
use Rattle.apart.proofs.Words.{FoundBefore}
use Rattle.apart.proofs.find_rows.Given as goal

abbrev pub invariant-loop-w : goal.invariant-loop-w
invariant-loop-w l = (length l.rows ≡ 1024) × FoundBefore l.nodes l.places l.counts l.m l.w l.rows
