-- `run::run_schedule` meets its contract. The loop's invariant: after i entries the answer, and what is parked, are those of the run over the rest of the schedule from
-- the state that is now kept. Assumes nothing.
use mathlib.Core.Path.{◌≡◌}
use lib.ListN as L
use Rattle.entry.specs.State.{state}
use Rattle.run.specs.Promises.{begun}
use Rattle.run.proofs.Entries.{Along}
use Rattle.run.proofs.run_schedule.Given as goal

abbrev pub invariant-loop-i : goal.invariant-loop-i
invariant-loop-i l =
    Along l.book l.operators l.net l.l l.schedule (state l.initial.symbols l.initial.work l.initial.units l.initial.order (begun l.rewrites) l.l) l.symbols l.scratch l.work l.units l.order l.p l.i
    × (L.length l.work ≡ L.length l.initial.work)
