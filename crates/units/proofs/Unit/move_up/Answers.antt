-- `units::Unit::move_up` meets its contract: the unit leaves, it is behind the one that leaves, or before it. Assumes nothing.
use mathlib.Core.Path.{refl, sym, ◌∙◌}
use native.Mathlib.Omega.{arith}
use Rattle.flat.proofs.Ranks.{left_here, left_above, left_below}
use Rattle.units.proofs.Unit.move_up.Goals as goal

pub returns-then-self-rank : goal.returns-then-self-rank
returns-then-self-rank c =
    let w = c.wake.ensures in
    (w.0 ∙ sym (left_here _ _ c.requires c.if-self-rank.true), omega (arith, w.0), w.1)

pub returns-then-rank-self : goal.returns-then-rank-self
returns-then-rank-self c =
    (omega (arith, left_above _ _ c.requires c.if-rank-self.true), omega arith, refl)

pub returns-else-rank-self : goal.returns-else-rank-self
returns-else-rank-self c =
    (sym (left_below _ _ (omega (arith, c.if-rank-self.false, c.if-self-rank.false))), omega arith, refl)
