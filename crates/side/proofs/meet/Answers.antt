-- `side::meet` meets its contract, by the laws of Symbols. Assumes nothing.
use Rattle.std.proofs.Common.{sym, ◌∙◌}
use Rattle.side.proofs.Mask.{bit_clear}
use Rattle.side.proofs.Symbols.{met_known, met_new, met_unknown}
use Rattle.side.proofs.meet.Goals as goal

pub returns-then-has : goal.returns-then-has
returns-then-has c = met_known _ _ _ _ (sym c.has.ensures ∙ c.if-has.true)

pub with-requires : goal.with-requires
with-requires c = (c.requires, bit_clear _ _ (sym c.has.ensures ∙ c.if-has.false))

pub returns-then-left : goal.returns-then-left
returns-then-left c = rw c.if-left.true (met_new _ _ _ _ (sym c.has.ensures ∙ c.if-has.false) c.with.ensures)

pub returns : goal.returns
returns c = rw c.if-left.false (met_unknown _ _ c.args.next (sym c.has.ensures ∙ c.if-has.false))
