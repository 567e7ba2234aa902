-- `bits::field` meets its contract, by the laws of Reading. Assumes nothing.
use native.Mathlib.Omega.{arith}
use Rattle.bits.proofs.Reading.{answers_value, answers_out}
use Rattle.bits.proofs.field.Goals as goal

pub returns-then-left-n : goal.returns-then-left-n
returns-then-left-n c = answers_out _ _ _ (omega arith)

pub returns : goal.returns
returns c = answers_value _ _ _ _ _ (omega arith) (omega arith) c.window-w.ensures c.middle.ensures
