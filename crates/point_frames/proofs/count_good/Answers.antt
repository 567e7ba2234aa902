-- `point_frames::count_good` meets its contract: the count of a JOIN before any WHOLE is tested. Assumes nothing.
use borrow.Author.Tests.{not-true, not-false}
use Rattle.point_frames.proofs.Tests.{count_free, count_group}
use Rattle.point_frames.proofs.count_good.Goals as goal

pub returns-then-not-r : goal.returns-then-not-r
returns-then-not-r c = count_free _ _ _ _ (not-true _ c.if-not-r.true)

pub returns : goal.returns
returns c =
    count_group _ _ _ _ c.index.result c.index-2.result (not-false _ c.if-not-r.false) c.index.ensures.0 c.index-2.ensures.0
