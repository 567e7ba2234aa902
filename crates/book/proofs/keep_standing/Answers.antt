-- `book::keep_standing` meets its contract, by the laws of Parts. Assumes nothing.
use Rattle.book.proofs.Parts.{dated_all, dated_kept, undated_kept}
use Rattle.book.proofs.keep_standing.Goals as goal

pub keep-requires : goal.keep-requires
keep-requires c =
    let p = c.requires in
    dated_all p.0 (rw c.if-dated.true at p.1)

pub returns-then-dated : goal.returns-then-dated
returns-then-dated c =
    dated_kept (rw c.if-dated.true at c.requires.1) c.keep.ensures

pub returns : goal.returns
returns c = undated_kept (rw c.if-dated.false at c.requires.1)
