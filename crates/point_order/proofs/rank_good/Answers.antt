-- `point_order::rank_good` meets its contract. Assumes nothing.
use mathlib.Core.Path.{sym, ◌∙◌}
use native.Mathlib.Omega.{arith}
use Rattle.point_order.proofs.Ranks.{rank_busy, rank_high, rank_idle}
use Rattle.point_order.proofs.rank_good.Goals as goal

pub returns-then-r-eq0 : goal.returns-then-r-eq0
returns-then-r-eq0 c =
    let p = c.requires in
    rank_busy _ _ _ _ _ _ p.3 p.4 (sym c.rank-r.ensures ∙ c.if-r-eq0.true)

pub returns-then-n-r : goal.returns-then-n-r
returns-then-n-r c =
    rank_high _ _ _ _ _ c.args.n c.requires.3 c.requires.4 (omega arith)

pub returns : goal.returns
returns c =
    rank_idle _ _ _ _ _ c.args.n c.requires.3 c.requires.4 (λ e. c.if-r-eq0.false (c.rank-r.ensures ∙ e)) (omega arith) c.waits.ensures
