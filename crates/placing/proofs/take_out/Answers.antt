-- `placing::take_out` meets its contract: the latest part of the unit, if it has one, is removed. Assumes nothing.
use mathlib.Core.Path.{refl}
use Rattle.placing.proofs.Order.{taken_out, none_taken_out}
use Rattle.placing.proofs.take_out.Goals as goal

pub returns-in-Some : goal.returns-in-Some
returns-in-Some c = taken_out c.in-Some.ensures.latest c.remove.ensures

pub returns-in_default : goal.returns-in_default
returns-in_default c = none_taken_out c.requires c.in_default.ensures.latest refl
