-- `point_order::is_join` meets its contract: by what the table answers. Assumes nothing.
use Rattle.point_order.proofs.Waiting.{join_end, join_here, join_other}
use Rattle.point_order.proofs.is_join.Goals as goal

pub returns-then-k-ge16 : goal.returns-then-k-ge16
returns-then-k-ge16 c = join_end c.requires _ c.if-k-ge16.true

pub returns-in-Join : goal.returns-in-Join
returns-in-Join c =
    join_here c.requires _ c.if-k-ge16.false _ c.step_at.ensures _ c.in-Join.is

pub returns-in_default : goal.returns-in_default
returns-in_default c =
    join_other c.requires _ c.if-k-ge16.false c.step_at.result c.step_at.ensures c.in_default.not-Join
