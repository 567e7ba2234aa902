-- `units::frames::frame_of` meets its contract: one law of Bytes for each kind of frame. Assumes nothing.
use mathlib.Core.Path.{sym}
use native.Mathlib.Omega.{arith}
use Rattle.units.proofs.Bytes.{job_word, exit_word, sleep_of, bingo_of}
use Rattle.units.proofs.frames.frame_of.Goals as goal

pub returns-in-0-to-31 : goal.returns-in-0-to-31
returns-in-0-to-31 c = (sym (job_word _ _ (omega arith)), (omega arith, omega arith, omega arith))

pub returns-in-32-to-39 : goal.returns-in-32-to-39
returns-in-32-to-39 c = (sym (exit_word _ _ (omega arith) (omega arith)), (omega arith, omega arith))

pub returns-in-40 : goal.returns-in-40
returns-in-40 c = (sym (sleep_of _ _ _ (omega arith)), tt)

pub returns-in_default : goal.returns-in_default
returns-in_default c = (sym (bingo_of _ _ _ (omega arith) (λ e. omega arith)), tt)
