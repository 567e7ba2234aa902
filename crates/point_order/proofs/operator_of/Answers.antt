-- `point_order::operator_of` meets its contract. Assumes nothing.
use native.Mathlib.Omega.{arith}
use Rattle.point_order.proofs.Waiting.{operator_in, operator_behind}
use Rattle.point_order.proofs.operator_of.Goals as goal

pub returns-then-a-length : goal.returns-then-a-length
returns-then-a-length c =
    operator_in c.args.symbols.now c.args.a c.requires.0 c.requires.1 _ (omega arith) c.operator_at.ensures

pub returns-else-a-length : goal.returns-else-a-length
returns-else-a-length c =
    operator_behind c.args.symbols.now c.args.a c.requires.0 c.requires.1 (omega arith)
