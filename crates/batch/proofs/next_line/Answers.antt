-- `batch::next_line` meets its contract, by the laws of NextLine. Assumes nothing.
use native.Mathlib.Omega.{arith}
use Rattle.batch.proofs.NextLine.{cut_short, no_room, next_done}
use Rattle.batch.proofs.next_line.Goals as goal

pub returns-then-left-lt-LONGEST : goal.returns-then-left-lt-LONGEST
returns-then-left-lt-LONGEST c =
    no_room _ _ _ _ (rw c.in-Some.is at c.part_end.ensures) (omega arith) (omega arith)

pub returns-in_default : goal.returns-in_default
returns-in_default c =
    cut_short _ _ c.args.left (omega arith) (rw c.in_default.is at c.part_end.ensures)

pub returns : goal.returns
returns c =
    next_done _ _ _ _ (rw c.in-Some.is at c.part_end.ensures) (omega arith)
