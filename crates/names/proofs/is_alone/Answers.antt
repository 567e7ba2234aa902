-- Answers of `is_alone`. Assumes nothing.
use Rattle.paper.proofs.Tests.{eqb_true}
use Rattle.names.proofs.Told.{alone_free, alone_found}
use Rattle.names.proofs.is_alone.Goals as goal

pub returns-then-points-k-eq0 : goal.returns-then-points-k-eq0
returns-then-points-k-eq0 c =
    let e = c.if-points-k-eq0.true in
    rw (eqb_true _ _ e) (alone_free _ c.args.k e)

pub returns-else-points-k-eq0 : goal.returns-else-points-k-eq0
returns-else-points-k-eq0 c = alone_found _ c.args.k c.again.result c.is_none.result c.if-points-k-eq0.false c.again.ensures c.is_none.ensures
