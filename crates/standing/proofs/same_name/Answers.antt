-- `standing::same_name` meets its contract, by the laws of Names. Assumes nothing.
use Rattle.standing.proofs.Names.{names_differ, names_known, names_new}
use Rattle.standing.proofs.same_name.Goals as goal

pub returns-then-a-others : goal.returns-then-a-others
returns-then-a-others c =
    let p = c.requires in
    names_differ p.0 p.1 (rw (c.index-x.ensures.0, c.index-y.ensures.0) at c.if-a-others.true)

pub returns-then-a-ne0 : goal.returns-then-a-ne0
returns-then-a-ne0 c =
    let p = c.requires in
    names_known p.0 p.1 (rw (c.index-x.ensures.0, c.index-y.ensures.0) at c.if-a-others.false) (rw c.index-x.ensures.0 at c.if-a-ne0.true)

pub returns : goal.returns
returns c =
    let p = c.requires in
    rw (c.index-x.ensures.0, c.index-y.ensures.0)
    (names_new p.0 p.1 (rw (c.index-x.ensures.0, c.index-y.ensures.0) at c.if-a-others.false) (rw c.index-x.ensures.0 at c.if-a-ne0.false))
