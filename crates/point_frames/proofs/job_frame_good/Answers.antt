-- `point_frames::job_frame_good` meets its contract: the tests of a job one after another. Assumes nothing.
use mathlib.Core.Path.{◌∙◌}
use native.Mathlib.Omega.{arith}
use Rattle.point_frames.proofs.Tests.{frame_no_job, frame_no_count, frame_room}
use Rattle.point_frames.proofs.job_frame_good.Goals as goal

pub returns-then-not-job_good : goal.returns-then-not-job_good
returns-then-not-job_good c =
    frame_no_job c.requires.readable.0.term _ _ _ _ _ c.requires.v_lt_units.2 c.job_left-r.ensures c.job_good.ensures c.if-not-job_good.true

pub bounds-exits-v : goal.bounds-exits-v
bounds-exits-v c =
    let p = c.requires.readable.0.kept in
    omega (arith, c.requires.v_lt_units, p.few, p.fit.most c.args.v)

pub returns-then-not-count_good : goal.returns-then-not-count_good
returns-then-not-count_good c =
    frame_no_count c.requires.readable.0.term _ _ _ _ _ c.requires.v_lt_units.2 c.job_left-r.ensures c.job_good.ensures c.offset-n.result (c.offset-n.ensures.0 ∙ c.requires.readable.1.is c.args.v c.args.i c.requires.v_lt_units.0 c.requires.v_lt_units.1)
    c.count_good.ensures c.if-not-job_good.false c.if-not-count_good.true

pub jobs_there-above-requires : goal.jobs_there-above-requires
jobs_there-above-requires c = c.requires.readable.0.kept

pub room_good-requires : goal.room_good-requires
room_good-requires c =
    (c.requires.readable.0.term, c.requires.v_lt_units.2, omega (arith, c.jobs_there-above.ensures.1, c.offset-n.ensures.1))

pub returns : goal.returns
returns c =
    frame_room c.requires.readable.0.term _ _ _ _ _ c.requires.v_lt_units.2 c.job_left-r.ensures c.job_good.ensures c.offset-n.result (c.offset-n.ensures.0 ∙ c.requires.readable.1.is c.args.v c.args.i c.requires.v_lt_units.0 c.requires.v_lt_units.1) c.count_good.ensures
    c.if-not-job_good.false c.if-not-count_good.false c.jobs_there-above.result c.jobs_there-above.ensures.0 c.room_good.ensures
