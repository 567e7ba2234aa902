-- `side::read_symbol` meets its contract, by the laws of Symbols. Assumes nothing.
use Rattle.std.proofs.Common.{refl, arith}
use Rattle.side.proofs.Symbols.{operator_short, operator_unknown, operator_known, variable_short, variable_known}
use Rattle.side.proofs.read_symbol.Goals as goal

pub returns-then-left-lt9 : goal.returns-then-left-lt9
returns-then-left-lt9 c =
    operator_short _ _ _ _ c.nine-w.ensures c.if-w-lt256.true (omega arith)

pub returns-then-n-w : goal.returns-then-n-w
returns-then-n-w c =
    operator_unknown _ _ _ _ c.nine-w.ensures c.if-w-lt256.true (omega arith) c.if-n-w.true

pub returns-then-w-lt256 : goal.returns-then-w-lt256
returns-then-w-lt256 c =
    operator_known _ _ _ _ c.nine-w.ensures c.if-w-lt256.true (omega arith) _ _ (omega arith) c.byte.ensures refl

pub returns-then-left-lt5 : goal.returns-then-left-lt5
returns-then-left-lt5 c =
    variable_short _ _ _ _ c.nine-w.ensures (omega arith) (omega arith)

pub returns : goal.returns
returns c =
    variable_known _ _ _ _ c.nine-w.ensures (omega arith) (omega arith) _ _ c.byte-2.ensures refl
