-- `text::class` meets its contract. Assumes nothing.
use mathlib.Core.Path.{ap, ◌∙◌}
use borrow.Author.Rules.{rules}
use Rattle.paper.specs.Text.{class}
use Rattle.text.proofs.class.Goals as goal

pub returns : goal.returns
returns c = c.requires.at _ (search rules) ∙ ap class c.index.ensures.0
