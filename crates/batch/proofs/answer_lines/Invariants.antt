-- `batch::answer_lines` meets its contract, by the laws of Loop: the lines up to a position are done. The measure is how many bytes are left. Assumes nothing.
use mathlib.Core.Path.{◌≡◌}
use Prim.Native.Nat.{◌-◌}
use lib.ListN.{length}
use Rattle.engine.specs.Spec.{reader}
use Rattle.batch.specs.Promises.{Arrays, Upto}
use Rattle.batch.proofs.answer_lines.Given as goal

abbrev pub invariant-loop-stop : goal.invariant-loop-stop
invariant-loop-stop l =
    (length l.work ≡ length l.initial.work) × (length l.answers ≡ length l.initial.answers) × Arrays l.line l.symbols l.scratch
    × Upto (reader l.form) l.book l.net l.limits l.schedule (length l.initial.work) l.lines l.initial.answers l.answers l.count l.read l.written

abbrev pub decreases-loop-stop : goal.decreases-loop-stop
decreases-loop-stop l = length l.lines - l.read
