-- `side::symbol_at` meets its contract, by the laws of There. Assumes nothing.
use Rattle.std.proofs.Common.{arith}
use Rattle.side.proofs.There.{stands_operator, stands_variable}
use Rattle.side.proofs.symbol_at.Goals as goal

pub returns-then-w-lt256 : goal.returns-then-w-lt256
returns-then-w-lt256 c =
    stands_operator _ _ _ c.nine-w.ensures c.requires _ _ c.if-w-lt256.true c.byte.ensures c.wrapping_add_usize.ensures.value

pub returns-else-w-lt256 : goal.returns-else-w-lt256
returns-else-w-lt256 c =
    stands_variable _ _ _ c.nine-w.ensures c.requires _ _ (omega (arith, c.if-w-lt256.false)) c.byte-else-w-lt256.ensures
    c.wrapping_add_usize-else-w-lt256.ensures.value
