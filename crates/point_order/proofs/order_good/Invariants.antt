-- `point_order::order_good` meets its contract: what all parts come to is what the first k come to, the later ones being taken off. Assumes nothing.
use mathlib.Core.Path.{◌≡◌}
use Prim.Native.Nat.{◌<◌}
use Rattle.units.specs.Stacks.{store}
use Rattle.placing.specs.Order.{latest_first, placed_in}
use Rattle.point_order.specs.Passing.{passes}
use Rattle.point_order.specs.Promises.{TopsFit, HeightsOf}
use Rattle.point_order.proofs.order_good.Given as goal

abbrev pub invariant-loop-k : goal.invariant-loop-k
invariant-loop-k l =
    (l.k < 1024) × TopsFit l.tops × HeightsOf l.cells l.initial.tops
    × (passes (store l.work l.cells) l.units l.initial.tops (placed_in l.order) ≡ passes (store l.work l.cells) l.units l.tops (latest_first l.order l.k))
