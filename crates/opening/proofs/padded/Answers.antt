-- `opening::padded` meets its contract: the bits that are left of a byte are one field. Assumes nothing.
use mathlib.Core.Path.{refl, ◌∙◌}
use Rattle.std.proofs.Common.{rules, tests}
use Rattle.paper.proofs.Tests.{eqb_true}
use Rattle.opening.proofs.Padding.{whole_byte, padding}
use Rattle.opening.proofs.padded.Goals as goal

pub returns-then-n-eq0 : goal.returns-then-n-eq0
returns-then-n-eq0 c = eqb_true _ _ c.if-n-eq0.true ∙ whole_byte _ _ c.if-n-eq0.true

pub returns-else-n-eq0 : goal.returns-else-n-eq0
returns-else-n-eq0 c = padding _ _ _ refl c.if-n-eq0.false c.field.result c.is_none_or.result c.field.ensures (search (rules, tests))
