-- `kurvneist::kurvneist_resume` meets its contract, as the law of the answer says. Assumes nothing.
use Rattle.kurvneist.proofs.Laws.{resumed}
use Rattle.kurvneist.proofs.kurvneist_resume.Goals as goal

pub returns : goal.returns
returns c = resumed c.resume-a.ensures c.put_answer.ensures
