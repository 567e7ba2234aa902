-- `point_order::waits` meets its contract: by the frame on top. Assumes nothing.
use native.Mathlib.Omega.{arith}
use Rattle.point_order.proofs.Waiting.{unit_empty, unit_job, unit_sleep, unit_other}
use Rattle.point_order.proofs.waits.Goals as goal

pub height-h-requires : goal.height-h-requires
height-h-requires c =
    (c.requires.2, omega (arith, c.requires.1.placed c.args.u c.requires.2))

pub returns-then-h-eq0 : goal.returns-then-h-eq0
returns-then-h-eq0 c = unit_empty c.height-h.ensures c.if-h-eq0.true

pub frame_at-requires : goal.frame_at-requires
frame_at-requires c =
    let f = c.requires.1 in
    omega (arith, c.base_of.ensures, c.height-h.ensures, f.most c.args.u, f.regions.bytes)

pub returns-in-Job : goal.returns-in-Job
returns-in-Job c =
    let h = c.height-h in
    unit_job _ _ _ _ h.result c.base_of.result h.ensures c.if-h-eq0.false c.base_of.ensures c.frame_at.result c.frame_at.ensures.0 _ _ c.in-Job.is c.job_waits.ensures

pub returns-in-Sleep : goal.returns-in-Sleep
returns-in-Sleep c =
    let h = c.height-h in
    unit_sleep _ _ _ _ h.result c.base_of.result h.ensures c.if-h-eq0.false c.base_of.ensures c.frame_at.result c.frame_at.ensures.0 c.in-Sleep.is

pub returns-in_default : goal.returns-in_default
returns-in_default c =
    let h = c.height-h in
    unit_other _ _ _ _ h.result c.base_of.result h.ensures c.if-h-eq0.false c.base_of.ensures c.frame_at.result c.frame_at.ensures.0 c.in_default.not-Job c.in_default.not-Sleep
