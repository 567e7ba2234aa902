-- `resumption::go_on` meets its contract, by the laws of Going. Assumes nothing.
use mathlib.Core.Path.{refl, ◌∙◌}
use native.Mathlib.Omega.{arith}
use Rattle.engine.proofs.Frame.{frame_of}
use Rattle.resumption.proofs.Going.{short, going, savable, present, gone_on}
use Rattle.resumption.proofs.go_on.Goals as goal

pub build-requires : goal.build-requires
build-requires c =
    let p = c.requires in
    let d = p.point_in.day_is in
    (p.point_in.tables, short p.point_in, (frame_of p.asked.0.faultless).net_long, omega (arith, d))

pub resume-part-requires : goal.resume-part-requires
resume-part-requires c =
    let p = c.requires in
    let g = going p.point_in c.build.ensures p.asked.0 refl in
    record { arrays = g.0; opened = g.1; point_rules = g.2; asked = g.3 }

pub replace-requires : goal.replace-requires
replace-requires c =
    let p = c.requires in
    (savable p.point_in c.build.ensures p.asked.0 c.resume-part.ensures _ c.added-run.ensures, p.asked.1)

pub leave-requires : goal.leave-requires
leave-requires c =
    let p = c.requires in
    present p.point_in c.build.ensures p.asked.0 c.resume-part.ensures _ c.added-run.ensures

pub shape_of-net : goal.shape_of-net
shape_of-net c = c.leave.auto.net ∙ c.build.auto.net

pub returns : goal.returns
returns c =
    let p = c.requires in
    gone_on p.point_in c.build.ensures p.asked.0 c.resume-part.ensures _ c.added-run.ensures c.args.k _ _ c.replace.ensures c.leave.ensures
    c.resume-part.auto.work
