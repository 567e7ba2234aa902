-- Answers of `slot`. Assumes nothing.
use Rattle.names.proofs.Told.{lent_slot}
use Rattle.names.proofs.slot.Goals as goal

pub returns-clause-bytes : goal.returns-clause-bytes
returns-clause-bytes c = lent_slot c.args.k c.args.points.now
