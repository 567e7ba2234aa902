-- `lookup::attempt` meets its contract. Assumes nothing.
use mathlib.Core.Path.{refl}
use Rattle.lookup.proofs.attempt.Goals as goal

pub try_rules-requires : goal.try_rules-requires
try_rules-requires c = let t = rw c.in-Some.is at c.requires.1 in (c.requires.0, t.0, t.1)

pub returns-in_default : goal.returns-in_default
returns-in_default c = rw c.in_default.is (refl, refl)
