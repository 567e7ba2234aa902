-- `kurvneist::kurvneist_settle_payee` meets its contract, as the law of the answer says. Assumes nothing.
use mir.Facts.{to_z-of_z}
use Rattle.kurvneist.proofs.Laws.{settled_told}
use Rattle.kurvneist.proofs.kurvneist_settle_payee.Goals as goal

pub returns : goal.returns
returns c =
    settled_told (rw (to_z-of_z c.ranges.amount) at c.settle-s.ensures) c.put_settled.ensures
