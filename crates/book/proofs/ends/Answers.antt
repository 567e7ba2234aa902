-- `book::ends` meets its contract, by the laws of Parts. Assumes nothing.
use Rattle.reader.proofs.Reading.{got, ran_out}
use Rattle.book.proofs.Parts.{ended_byte, ended_out, ended_value}
use Rattle.book.proofs.ends.Goals as goal

pub returns-then-k-ge8 : goal.returns-then-k-ge8
returns-then-k-ge8 c = ended_byte _ _ _ c.left-k.ensures c.if-k-ge8.true

pub returns-in_default : goal.returns-in_default
returns-in_default c = ended_out _ _ _ c.left-k.ensures (ran_out c.field.ensures c.in_default.is)

pub returns : goal.returns
returns c =
    ended_value _ _ _ _ _ c.left-k.ensures c.if-k-ge8.false (got c.field.ensures c.in-Ok.is)
