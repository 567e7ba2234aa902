-- `text::has_classes` meets its contract: operators 0 to 42 have their arities if those from o on have. Assumes nothing.
use mathlib.Core.Path.{◌≡◌}
use Prim.Native.Nat.{◌-◌, ◌≤◌, ◌<◌}
use Rattle.paper.specs.Text.{one_argument, has_classes}
use Rattle.tables.specs.Layout.{arity_in}
use Rattle.text.proofs.has_classes.Given as goal

abbrev pub invariant-loop-o : goal.invariant-loop-o
invariant-loop-o l =
    (0 < l.o) × (l.o ≤ 43) × (has_classes l.n (arity_in l.operators) ≡ one_argument (arity_in l.operators) (43 - l.o) l.o)
