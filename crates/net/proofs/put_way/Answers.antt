-- `net::put_way` meets its contract: a link, and the depths of the rule that is left. Assumes nothing.
use Rattle.net.proofs.Puts.{way_put, way_choice}
use Rattle.net.proofs.put_way.Goals as goal

pub returns-then-choice : goal.returns-then-choice
returns-then-choice c =
    let a = c.args in
    rw c.if-choice.true
    (way_choice _ _ _ a.i a.d a.k a.j c.requires.1
    (way_put _ _ _ a.i a.d a.k a.j c.requires.1 c.link.ensures c.raise.ensures) c.raise-then-choice.ensures)

pub returns-else-choice : goal.returns-else-choice
returns-else-choice c =
    let a = c.args in
    rw c.if-choice.false (way_put _ _ _ a.i a.d a.k a.j c.requires.1 c.link.ensures c.raise.ensures)
