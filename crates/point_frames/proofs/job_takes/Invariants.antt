-- `point_frames::job_takes` meets its contract: the loop's invariant: p is where argument x stands, and none before it is taken. Assumes nothing.
use mathlib.Core.Bool.{false}
use mathlib.Core.Path.{◌≡◌}
use Prim.Native.Nat.{◌≤◌}
use Rattle.flat.specs.Symbols.{argument}
use Rattle.flat.specs.Tested.{some_below}
use Rattle.tables.specs.Layout.{arity_in}
use Rattle.term.specs.Present.{operators_in}
use Rattle.point_frames.proofs.Arguments.{free}
use Rattle.point_frames.proofs.job_takes.Given as goal

abbrev pub invariant-loop-x : goal.invariant-loop-x
invariant-loop-x l =
    (l.x ≤ l.n) × (l.p ≡ argument (arity_in l.operators) (operators_in l.symbols) l.b l.x) × (some_below (free l.operators l.symbols l.a l.b l.o l.k) l.x ≡ false)
