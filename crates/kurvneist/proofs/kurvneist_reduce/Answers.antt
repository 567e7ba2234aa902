-- `kurvneist::kurvneist_reduce` meets its contract, as the law of the answer says. Assumes nothing.
use Rattle.kurvneist.proofs.Laws.{reduced}
use Rattle.kurvneist.proofs.kurvneist_reduce.Goals as goal

pub returns : goal.returns
returns c = reduced c.reduce-a.ensures c.put_answer.ensures
