-- `units::sleep_all` meets its contract: the loop's invariant: units 0 to u - 1 are asleep. Assumes nothing.
use mathlib.Core.Path.{◌≡◌}
use lib.ListN.{length}
use Rattle.units.specs.Stacks.{store}
use Rattle.units.specs.Promises.{AsleepBelow}
use Rattle.units.proofs.sleep_all.Given as goal

abbrev pub invariant-loop-u : goal.invariant-loop-u
invariant-loop-u l = (length l.work ≡ length l.initial.work) × AsleepBelow l.u (store l.work l.units)
