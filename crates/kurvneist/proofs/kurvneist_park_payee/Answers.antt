-- `kurvneist::kurvneist_park_payee` meets its contract, as the law of the answer says. Assumes nothing.
use Rattle.kurvneist.proofs.Laws.{parked}
use Rattle.kurvneist.proofs.kurvneist_park_payee.Goals as goal

pub returns : goal.returns
returns c = parked c.park-a.ensures c.put_answer.ensures
