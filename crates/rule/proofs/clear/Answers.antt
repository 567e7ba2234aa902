-- `rule::clear` meets its contract. Assumes nothing.
use mathlib.Core.Path.{refl}
use Rattle.rule.proofs.Bindings.{holds_blank}
use Rattle.rule.proofs.clear.Goals as goal

pub returns : goal.returns
returns c = holds_blank refl
