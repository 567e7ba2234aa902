-- `units::frames::put_frame` meets its contract: what is written for each kind decodes to the frame. Assumes nothing.
use mathlib.Core.Path.{◌≡◌, subst}
use native.Mathlib.Omega.{arith}
use Rattle.units.specs.declared.frames.Frame.{Frame}
use Rattle.units.specs.Frames.{flat, decode, InThreeBytes}
use Rattle.units.proofs.Bytes.{job_bytes, exit_bytes}
use Rattle.units.proofs.frames.put_frame.Goals as goal

-- what is required of a frame, where it is known
fits : {f g : Frame} → f ≡ g → InThreeBytes (flat f) → InThreeBytes (flat g)
fits e h = subst (λ (g : Frame). InThreeBytes (flat g)) e h

pub overflow_mul-from : goal.overflow_mul-from
overflow_mul-from c =
    let h = fits c.in-Job.is c.requires.1 in omega (arith, h)

pub overflow_add-job : goal.overflow_add-job
overflow_add-job c =
    let h = fits c.in-Job.is c.requires.1 in omega (arith, h)

pub overflow_add-exit : goal.overflow_add-exit
overflow_add-exit c =
    let h = fits c.in-Exit.is c.requires.1 in omega (arith, h)

pub returns-in-Job : goal.returns-in-Job
returns-in-Job c =
    let h = fits c.in-Job.is c.requires.1 in
    rw (c.in-Job.is, ← job_bytes _ _ _ h.0 h.1, ← c.from.ensures) c.put_word.ensures

pub returns-in-Exit : goal.returns-in-Exit
returns-in-Exit c =
    let h = fits c.in-Exit.is c.requires.1 in
    rw (c.in-Exit.is, ← exit_bytes _ _ h.0) c.put_word-in-Exit.ensures

pub returns-in-Sleep : goal.returns-in-Sleep
unfolding decode
returns-in-Sleep c = rw c.in-Sleep.is c.put_word-in-Sleep.ensures

pub returns-in-Bingo : goal.returns-in-Bingo
unfolding decode
returns-in-Bingo c = rw c.in-Bingo.is c.put_word-in-Bingo.ensures
