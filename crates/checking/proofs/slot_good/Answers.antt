-- Answers of `slot_good`. Assumes nothing.
use mathlib.Core.Path.{sym, ◌∙◌}
use native.Mathlib.Omega.{arith}
use Rattle.paper.proofs.Tests.{eqb_true}
use Rattle.checking.proofs.Kept.{whole_free, broken_name, whole_part}
use Rattle.checking.proofs.slot_good.Goals as goal

pub returns-then-slot-eq0 : goal.returns-then-slot-eq0
returns-then-slot-eq0 c = eqb_true _ _ c.if-slot-eq0.true ∙ sym (whole_free _ c.if-slot-eq0.true)

pub returns-then-name_kept : goal.returns-then-name_kept
returns-then-name_kept c =
    c.part_good.ensures ∙ sym (whole_part _ (omega arith) c.if-slot-eq0.false (sym c.name_kept.ensures ∙ c.if-name_kept.true))

pub returns-else-name_kept : goal.returns-else-name_kept
returns-else-name_kept c = c.if-name_kept.false ∙ sym (broken_name _ (omega arith) c.if-slot-eq0.false (sym c.name_kept.ensures ∙ c.if-name_kept.false))
