-- `lookup::go_on` meets its contract. Assumes nothing.
use mathlib.Core.Logic.{inl, inr}
use Rattle.lookup.proofs.go_on.Goals as goal

pub returns-then-own-eq-PART : goal.returns-then-own-eq-PART
returns-then-own-eq-PART c = inl (c.if-own-eq-PART.true, c.by_part.ensures)

pub returns-else-own-eq-PART : goal.returns-else-own-eq-PART
returns-else-own-eq-PART c = inr (c.if-own-eq-PART.false, c.by_symbol.ensures)
