-- `kurvneist::kurvneist_payee_lines` meets its contract, as the law of the answer says. Assumes nothing.
use Rattle.kurvneist.proofs.Laws.{lines_told}
use Rattle.kurvneist.proofs.kurvneist_payee_lines.Goals as goal

pub returns : goal.returns
returns c = lines_told c.payee_lines-b.ensures c.put_done.ensures
