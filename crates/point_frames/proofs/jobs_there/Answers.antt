-- `point_frames::jobs_there` meets its contract: by the frame. Assumes nothing.
use mathlib.Core.List.{[], ◌∷◌}
use mathlib.Core.Path.{sym, ap, ◌∙◌}
use native.Mathlib.Omega.{arith}
use Rattle.flat.specs.Machine.{Frame}
use Rattle.flat.specs.Rules.{jobs}
use Rattle.units.specs.Frames.{flat}
use Rattle.units.specs.declared.frames.Frame as D
use Rattle.point_frames.proofs.Tests.{not_job, jobs_other, jobs_one}
use Rattle.point_frames.proofs.jobs_there.Goals as goal

pub returns-in-Job : goal.returns-in-Job
returns-in-Job c = (
  sym (ap (λ (g : Frame). jobs (g ∷ [])) (c.frame.ensures.0 ∙ ap (λ (g : D.Frame). flat g) c.in-Job.is) ∙ jobs_one _ _ _),
  omega arith,
)

pub returns-in_default : goal.returns-in_default
returns-in_default c = (
  sym (ap (λ (g : Frame). jobs (g ∷ [])) c.frame.ensures.0 ∙ jobs_other (flat c.frame.result) (not_job c.frame.result c.in_default.not-Job)),
  omega arith,
)
