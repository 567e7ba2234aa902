-- `strategy::opened` meets its contract. Assumes nothing.
use mathlib.Core.Path.{refl}
use native.Mathlib.Omega.{arith}
use borrow.Author.Tests.{ne_eqb}
use Rattle.strategy.proofs.opened.Goals as goal

pub returns-then-v-eq8 : goal.returns-then-v-eq8
returns-then-v-eq8 c = rw c.if-v-eq8.true (refl, omega arith)

pub returns : goal.returns
returns c = (rw (ne_eqb _ 8 c.if-v-eq8.false), c.requires)
