-- `writer::write_short` meets its contract, as the laws of the answers say. Assumes nothing.
use Rattle.refusal.proofs.Passing.{passed_up}
use Rattle.writer.proofs.Laws.{accepted_of, answers_refused}
use Rattle.writer.proofs.write_short.Goals as goal

pub write_fitting-requires : goal.write_fitting-requires
write_fitting-requires c = (c.requires, accepted_of c.in_ok-n.ensures)

pub returns-in_err-n : goal.returns-in_err-n
returns-in_err-n c =
    rw (passed_up c.from_residual.result c.from_residual.ensures.1) (answers_refused _ _ _ c.in_err-n.ensures.is)
