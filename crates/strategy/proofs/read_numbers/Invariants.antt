-- `strategy::read_numbers` meets its contract. The invariant: reading the whole is reading what is left, with what is stored in front.
-- Assumes nothing.
use mathlib.Core.Bool.{false}
use mathlib.Core.Path.{◌≡◌}
use Prim.Native.Nat.{◌-◌}
use lib.ListN.{length, take, drop}
use Rattle.paper.specs.Bits.{bits_of}
use Rattle.paper.specs.Reader.{read_numbers}
use Rattle.strategy.proofs.Reading.{prepend}
use Rattle.strategy.proofs.read_numbers.Given as goal

abbrev pub invariant-loop-k : goal.invariant-loop-k
invariant-loop-k l =
    (length l.items ≡ 32)
    × (read_numbers l.arity false l.count (drop l.at (bits_of l.book)) ≡ prepend (take l.k l.items) (read_numbers l.arity l.grouped (l.count - l.k) (drop l.pos (bits_of l.book))))
