-- `point_frames::frame_good` meets its contract: by the frame. Assumes nothing.
use mathlib.Core.Path.{subst, ap, ◌∙◌}
use Rattle.flat.specs.Tested as T
use Rattle.term.specs.Present.{length_in}
use Rattle.units.specs.Frames.{flat}
use Rattle.units.specs.Stacks.{Below}
use Rattle.units.specs.declared.frames.Frame as D
use Rattle.point_frames.proofs.Tests.{by_frame, good_exit, good_other}
use Rattle.point_frames.proofs.frame_good.Goals as goal

pub job_frame_good-requires : goal.job_frame_good-requires
job_frame_good-requires c =
    let e = c.frame.ensures.0 ∙ ap (λ (g : D.Frame). flat g) c.in-Job.is in
    record {
      readable = c.requires.readable;
      v_lt_units = (c.requires.v_lt_units.0, c.requires.v_lt_units.1, subst (Below (length_in c.args.symbols.now)) e (c.requires.readable.0.inside.each _ _));
    }

pub returns-in-Job : goal.returns-in-Job
returns-in-Job c =
    let e = c.frame.ensures.0 ∙ ap (λ (g : D.Frame). flat g) c.in-Job.is in
    by_frame (λ B z g. T.frame_good B z c.args.v c.args.i g) e c.job_frame_good.ensures

pub returns-in-Exit : goal.returns-in-Exit
returns-in-Exit c =
    let e = c.frame.ensures.0 ∙ ap (λ (g : D.Frame). flat g) c.in-Exit.is in
    good_exit _ _ _ _ e c.exit_good.ensures

pub returns-in_default : goal.returns-in_default
returns-in_default c = good_other _ _ c.frame.result c.frame.ensures.0 c.in_default.not-Job c.in_default.not-Exit
