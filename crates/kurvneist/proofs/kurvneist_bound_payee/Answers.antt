-- `kurvneist::kurvneist_bound_payee` meets its contract, as the law of the answer says. Assumes nothing.
use Rattle.kurvneist.proofs.Laws.{bound_told}
use Rattle.kurvneist.proofs.kurvneist_bound_payee.Goals as goal

pub returns : goal.returns
returns c = bound_told c.bound_form-b.ensures c.put_bound.ensures
