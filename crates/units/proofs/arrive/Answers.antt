-- `units::arrive` meets its contract: the count is now 0, or it isn't. Assumes nothing.
use mathlib.Core.Path.{◌∙◌}
use native.Mathlib.Omega.{arith}
use Rattle.units.proofs.Changes.{arrive_last, arrive_more}
use Rattle.units.proofs.arrive.Goals as goal

pub lower_at-requires : goal.lower_at-requires
lower_at-requires c =
    omega (arith, c.requires.fit.most c.args.v, c.requires.fit.regions.bytes)

pub is_zero_at-requires : goal.is_zero_at-requires
is_zero_at-requires c =
    omega (arith, c.requires.fit.most c.args.v, c.requires.fit.regions.bytes, c.lower_at.ensures.outside.size)

pub returns-then-is_zero_at : goal.returns-then-is_zero_at
returns-then-is_zero_at c =
    arrive_last c.requires (omega arith) c.lower_at.ensures (c.is_zero_at.ensures ∙ c.if-is_zero_at.true) c.wake_unit.ensures

pub returns-else-is_zero_at : goal.returns-else-is_zero_at
returns-else-is_zero_at c =
    arrive_more c.requires (omega arith) c.lower_at.ensures (c.is_zero_at.ensures ∙ c.if-is_zero_at.false)
