-- `rule::match_rest` meets its contract: an answer for the symbols to come is one for all. Assumes nothing.
use Prim.Native.Nat.{ℕ, ◌+◌, ◌-◌, ◌*◌, ◌≤◌}
use Rattle.std.specs.Prelude.{Option}
use lib.ListN.{take}
use Rattle.flat.specs.Symbols.{Binding}
use Rattle.symbol.specs.Record.{operators as operators_of}
use Rattle.rule.specs.Packed.{binding}
use Rattle.rule.specs.Promises.{BoundWithin, RestMatched}
use Rattle.rule.proofs.match_rest.Given as goal

abbrev pub invariant-loop : goal.invariant-loop
invariant-loop l =
    (l.owed + 255 * (63 - l.counter) ≤ 16320) × (l.q ≤ l.len) × BoundWithin l.bound l.len
    × ((b : Binding) (r : Option ℕ) → RestMatched l.book l.p l.operators l.owed (63 - l.counter) (operators_of (take l.len l.symbols)) l.q (binding l.bound) b r →
    RestMatched l.book l.at l.operators l.due 63 (operators_of (take l.len l.symbols)) l.offset (binding l.initial.bound) b r)
