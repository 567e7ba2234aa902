-- Answers of `name_kept`. Assumes nothing.
use mathlib.Core.Path.{◌∙◌}
use lib.Dec.{eqb}
use Rattle.std.proofs.Common.{rules, tests}
use Rattle.std.proofs.lemmas.Iterator.{YieldsList-from_slice}
use Rattle.std.proofs.lemmas.Iterator.Search.{all_from_yields_List}
use borrow.Author.Tests.{lt-leb}
use Rattle.checking.proofs.Kept.{kept_short, kept_long}
use Rattle.checking.proofs.name_kept.Goals as goal

pub returns-then-n-le16 : goal.returns-then-n-le16
returns-then-n-le16 c =
    all_from_yields_List (λ b. eqb b 0) _ _ _ c.all.ensures.ran (YieldsList-from_slice _ c.iter.ensures.rest) (λ x b q k. search (rules, tests))
    ∙ kept_short c.args.slot.now c.from-n.result c.from-n.ensures c.if-n-le16.true

pub returns-else-n-le16 : goal.returns-else-n-le16
returns-else-n-le16 c = lt-leb _ 16 c.if-n-le16.false ∙ kept_long c.args.slot.now c.from-n.result c.from-n.ensures c.if-n-le16.false
