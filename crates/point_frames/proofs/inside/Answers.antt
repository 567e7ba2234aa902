-- `point_frames::inside` meets its contract: by the frame. Assumes nothing.
use mathlib.Core.Path.{sym, ap}
use Prim.Native.Nat.{ℕ}
use lib.Dec.{ltb}
use Rattle.units.specs.Frames.{flat}
use Rattle.point_frames.proofs.Tests.{not_job, inside_other}
use Rattle.point_frames.proofs.inside.Goals as goal

pub returns-in-Job : goal.returns-in-Job
returns-in-Job c =
    rw c.in-Job.is (ap (λ (x : ℕ). ltb x c.args.n) (sym c.offset.ensures.0))

pub returns-in_default : goal.returns-in_default
returns-in_default c = let a = c.args in inside_other a.n (flat a.f) (not_job a.f c.in_default.not-Job)
