-- `point_order::heights` meets its contract: the heights of the units below u stand. Assumes nothing.
use Prim.Native.Nat.{◌≤◌}
use Rattle.point_order.proofs.Loops.{HeightsBelow}
use Rattle.point_order.proofs.heights.Given as goal

abbrev pub invariant-loop-u : goal.invariant-loop-u
invariant-loop-u l = (l.u ≤ 8) × HeightsBelow l.u l.cells l.tops
