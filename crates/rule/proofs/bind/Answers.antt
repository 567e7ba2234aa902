-- `rule::bind` meets its contract. Assumes nothing.
use Rattle.rule.proofs.Bindings.{holds_bind}
use Rattle.rule.proofs.bind.Goals as goal

pub returns : goal.returns
returns c =
    let a = c.args in
    holds_bind a.bound.now a.v a.at a.n c.requires.0 c.requires.1 _ (rw c.from-i.ensures)
