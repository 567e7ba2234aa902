-- `point_order::ranks_good` meets its contract. Assumes nothing.
use mathlib.Core.Path.{refl}
use Rattle.point_order.proofs.Ranks.{idle_are, ranks_stop, ranks_rest}
use Rattle.point_order.proofs.ranks_good.Goals as goal

pub each_rank_good-requires : goal.each_rank_good-requires
each_rank_good-requires c =
    let p = c.requires in
    (p.0, p.1, p.2, idle_are _ c.of_rank.ensures refl)

pub returns-then-not-each_rank_good : goal.returns-then-not-each_rank_good
returns-then-not-each_rank_good c = ranks_stop c.each_rank_good.ensures c.if-not-each_rank_good.true

pub returns : goal.returns
returns c =
    ranks_rest c.each_rank_good.ensures c.if-not-each_rank_good.false (idle_are _ c.of_rank.ensures refl) c.each_once.ensures
