-- `strategy::found` meets its contract: a number stands in a list if one of its numbers is equal. Assumes nothing.
use Rattle.std.proofs.Common.{◌∙◌}
use Rattle.strategy.proofs.Front.{any_has}
use Rattle.strategy.proofs.found.Goals as goal

pub returns : goal.returns
returns c = c.contains.ensures.value ∙ any_has _ _
