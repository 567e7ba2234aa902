-- `symbol::make` meets its contract. Assumes nothing.
use native.Mathlib.Omega.{arith}
use Rattle.symbol.specs.Record.{operator, size}
use Rattle.symbol.proofs.Record.{unmarked_bit}
use Rattle.symbol.proofs.make.Goals as goal

pub returns : goal.returns
unfolding operator size
returns c = (omega arith, omega arith, unmarked_bit _ (omega arith))
