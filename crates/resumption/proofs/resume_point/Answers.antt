-- `resumption::resume_point` meets its contract, by the laws of Slot and Answers. Assumes nothing.
use mathlib.Core.Path.{refl, ap, ◌∙◌}
use native.Mathlib.Omega.{arith}
use Rattle.engine.proofs.Frame.{frame_of}
use Rattle.parking.specs.Form.{Point}
use Rattle.resumption.proofs.Slot.{not_broken, loaded_run, loaded_point, point_in, can_save, asked_with}
use Rattle.resumption.proofs.Answers.{areas_good, accepts}
use Rattle.resumption.proofs.resume_point.Goals as goal

pub load-requires : goal.load-requires
load-requires c =
    let p = c.requires in
    let w = (frame_of p.asked.faultless).work_long in (
      p.holds.inside,
      record { book_long = refl; operators_long = refl; symbols_long = refl; order_long = refl; regions = record { bytes = omega (arith, w); eight = refl } },
    )

pub go_on-requires : goal.go_on-requires
go_on-requires c =
    let p = c.requires in
    let h = p.holds in
    let o = loaded_run c.load.ensures c.in_ok-point.ensures.ok_part in
    record { point_in = point_in h o; asked = (asked_with h o c.load.auto.work p.asked, can_save h o) }

pub returns-in_err-point : goal.returns-in_err-point
returns-in_err-point c = absurd (not_broken c.requires.holds c.load.ensures c.in_err-point.ensures.ok_part)

pub shape_of-work : goal.shape_of-work
shape_of-work c = c.go_on.auto.work ∙ c.load.auto.work

pub returns : goal.returns
returns c =
    let p = c.requires in
    let h = p.holds in
    let o = loaded_run c.load.ensures c.in_ok-point.ensures.ok_part in
    accepts _ _ _ _ _ _ (areas_good _ _ _ p.asked.faultless) h p.asked.named (ap (λ (P : Point). record { at = c.args.k; point = P }) (loaded_point h o)) c.load.auto.work
    c.go_on.ensures
