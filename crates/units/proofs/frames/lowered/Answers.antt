-- `units::frames::lowered` meets its contract: a job with a count above 0, a job with count 0, another frame. Assumes nothing.
use mathlib.Core.Logic.{inl, inr}
use Rattle.units.proofs.Bytes.{lower_job, lower_zero, lower_other}
use Rattle.units.proofs.frames.lowered.Goals as goal

pub returns-then-word-ge1024 : goal.returns-then-word-ge1024
returns-then-word-ge1024 c = lower_job _ _ c.if-kind-lt32.true c.if-word-ge1024.true

pub returns : goal.returns
returns c =
    elim c.else-kind-lt32.either [
      | inl h ↦ lower_zero _ _ h.0 h.1
      | inr h ↦ lower_other _ _ h
    ]
