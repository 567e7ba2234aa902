-- `kurvneist::kurvneist_payee` meets its contract, as the law of the answer says. Assumes nothing.
use Rattle.kurvneist.proofs.Laws.{reduced}
use Rattle.kurvneist.proofs.kurvneist_payee.Goals as goal

pub returns : goal.returns
returns c = reduced c.payee-a.ensures c.put_answer.ensures
