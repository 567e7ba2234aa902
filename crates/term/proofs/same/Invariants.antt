-- `term::same` meets its contract: all symbols before the one compared are equal. Assumes nothing.
use mathlib.Core.List.{List}
use mathlib.Core.Path.{◌≡◌}
use Prim.Native.Nat.{ℕ, ◌-◌, ◌≤◌}
use lib.ListN.{take, drop}
use Rattle.symbol.specs.Record.{operators}
use Rattle.term.proofs.same.Given as goal

-- the invariant: the i symbols from offset a on, all before the one compared, are those from offset b on
abbrev pub EqualBefore : List ℕ → ℕ → ℕ → ℕ → Type 0
EqualBefore xs a b i = take i (drop a xs) ≡ take i (drop b xs)

abbrev pub invariant-loop-i : goal.invariant-loop-i
invariant-loop-i l = (l.i ≤ l.n) × EqualBefore (operators (take l.len l.symbols)) l.a l.b l.i
