-- `units::drop_top` meets its contract: the height of unit u is one less. Assumes nothing.
use mathlib.Core.Path.{refl}
use native.Mathlib.Omega.{arith}
use borrow.Author.Rules.{rules}
use Rattle.units.proofs.Changes.{drops}
use Rattle.units.proofs.drop_top.Goals as goal

pub returns : goal.returns
returns c = drops _ (search rules) (search rules) (omega arith) refl
