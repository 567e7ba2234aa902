-- `page::is_page` meets its contract: the byte string is the fixed line. Assumes nothing.
use mathlib.Core.Path.{◌∙◌}
use Rattle.paper.specs.Page.{line}
use Rattle.page.specs.Spec.{fixed_line}
use Rattle.page.proofs.Prefix.{begins_is}
use Rattle.page.proofs.is_page.Goals as goal

pub returns : goal.returns
unfolding line
returns c = c.starts_with.ensures.value ∙ begins_is fixed_line c.args.bytes.now
