-- `units::frames::zero_count` meets its contract: a job's count is its high byte's upper six bits. Assumes nothing.
use mathlib.Core.Path.{sym, ◌∙◌}
use borrow.Author.Tests.{le-ltb}
use Rattle.units.proofs.Bytes.{zero_job, zero_other}
use Rattle.units.proofs.frames.zero_count.Goals as goal

pub returns-then-kind-lt32 : goal.returns-then-kind-lt32
returns-then-kind-lt32 c = λ low. zero_job _ low _ c.if-kind-lt32.true

pub returns-else-kind-lt32 : goal.returns-else-kind-lt32
returns-else-kind-lt32 c = λ low. zero_other _ low _ c.if-kind-lt32.false ∙ sym (le-ltb _ _ c.if-kind-lt32.false)
