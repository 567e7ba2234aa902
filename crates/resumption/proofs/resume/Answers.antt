-- `resumption::resume` meets its contract, by the laws of Slot and Answers. Assumes nothing.
use mathlib.Core.Path.{sym, ap, ◌∙◌}
use native.Mathlib.Omega.{arith}
use Prim.Native.Nat.{ℕ}
use Rattle.paper.specs.Page.{all_below}
use Rattle.refusal.proofs.Passing.{passed_up}
use Rattle.refusal.proofs.Some.{some_number}
use Rattle.resumption.proofs.Slot.{units_are, counted}
use Rattle.resumption.proofs.Answers.{areas_good, areas_bad, by_areas, by_points, by_schedule}
use Rattle.resumption.proofs.resume.Goals as goal

pub returns-in_err-check_frame : goal.returns-in_err-check_frame
returns-in_err-check_frame c =
    rw (passed_up c.from_residual.result c.from_residual.ensures.1)
    (by_areas _ _ _ _ _ _ _ (areas_bad _ _ _ _ c.in_err-check_frame.ensures (λ z. omega (arith, some_number c.in_err-check_frame.field-0.0))))

pub returns-in_err-k : goal.returns-in_err-k
returns-in_err-k c =
    rw (passed_up c.from_residual-in_err-k.result c.from_residual-in_err-k.ensures.1)
    (by_points _ _ _ _ _ _ (areas_good _ _ _ (sym c.in_ok-check_frame.ensures)) _ c.in_err-k.ensures.is)

pub unit_count-requires : goal.unit_count-requires
unit_count-requires c = c.in_ok-k.ensures.is.inside

pub names_units-requires : goal.names_units-requires
names_units-requires c = (units_are c.in_ok-k.ensures.is c.unit_count.ensures c.in_ok-units.ensures.ok_part).1

pub returns-in_err-units : goal.returns-in_err-units
returns-in_err-units c = absurd (counted c.in_ok-k.ensures.is c.unit_count.ensures c.in_err-units.ensures.ok_part)

pub returns-then-not-names_units : goal.returns-then-not-names_units
returns-then-not-names_units c =
    let h = c.in_ok-k.ensures.is in
    let u = (units_are h c.unit_count.ensures c.in_ok-units.ensures.ok_part).0 in
    let schedule = c.args.schedule.now in
    by_schedule _ _ _ _ _ _ (areas_good _ _ _ (sym c.in_ok-check_frame.ensures)) h
    (ap (λ (n : ℕ). all_below n schedule) (sym u) ∙ sym c.names_units.ensures ∙ c.if-not-names_units.true)

pub resume_point-requires : goal.resume_point-requires
resume_point-requires c =
    let h = c.in_ok-k.ensures.is in
    let u = (units_are h c.unit_count.ensures c.in_ok-units.ensures.ok_part).0 in
    let schedule = c.args.schedule.now in
    record {
      holds = h;
      asked = record {
        faultless = sym c.in_ok-check_frame.ensures;
        named = ap (λ (n : ℕ). all_below n schedule) (sym u) ∙ sym c.names_units.ensures ∙ c.if-not-names_units.false;
      };
    }
