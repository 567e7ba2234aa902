-- `net::way` meets its contract: what is sought is sought from the rule at hand on. Assumes nothing.
use mathlib.Core.Path.{◌≡◌}
use Prim.Native.Nat.{◌<◌}
use Rattle.net.specs.Layout.{number, seek, way_in}
use Rattle.net.proofs.way.Given as goal

abbrev pub invariant-loop-next : goal.invariant-loop-next
invariant-loop-next l = (way_in l.net l.i l.d l.k ≡ seek l.net (number l.next) (number l.next) l.i l.d l.k) × (number l.next < 256)

abbrev pub decreases-loop-next : goal.decreases-loop-next
decreases-loop-next l = number l.next
