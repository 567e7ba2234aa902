-- `point_frames::room_good` meets its contract: the room of a job that was visited is tested. Assumes nothing.
use mathlib.Core.Path.{ap, ◌∙◌}
use Prim.Native.Nat.{ℕ}
use native.Mathlib.Omega.{arith}
use lib.ListN.{get_or}
use Rattle.symbol.specs.Record.{operator}
use Rattle.point_frames.proofs.Tests.{room_visit, room_steps}
use Rattle.point_frames.proofs.room_good.Goals as goal

pub returns-then-job-eq0 : goal.returns-then-job-eq0
returns-then-job-eq0 c = room_visit _ _ _ _ c.if-job-eq0.true

pub operator_at-o-requires : goal.operator_at-o-requires
operator_at-o-requires c =
    let p = c.requires in omega (arith, c.offset.ensures.0, p.1, p.0.sized.most)

pub returns : goal.returns
returns c =
    room_steps c.args.job.offset c.args.job.count c.args.m c.requires.0 c.args.job.next c.operator_at-o.result c.index.result
    c.arity.result c.if-job-eq0.false c.requires.1
    (c.operator_at-o.ensures ∙ ap (λ (a : ℕ). operator (get_or c.args.symbols.now a 0)) c.offset.ensures.0) c.index.ensures.0
    c.arity.ensures.0
