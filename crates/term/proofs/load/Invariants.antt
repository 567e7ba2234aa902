-- `term::load` meets its contract: the symbols from the one put last up to the n-th have their operators, no marks, and their sizes, and the size of that one is kept.
-- Assumes nothing.
use mathlib.Core.Bool.{false}
use mathlib.Core.List.{List}
use mathlib.Core.Path.{◌≡◌}
use Prim.Native.Nat.{ℕ, ◌≤◌, ◌<◌}
use lib.ListN.{length, get_or, take, drop}
use Rattle.flat.specs.Symbols.{skip}
use Rattle.symbol.specs.Record.{operator, marked, size}
use Rattle.tables.specs.Layout.{arity_in}
use Rattle.term.proofs.load.Given as goal

-- the invariant: from offset i on, each of the n symbols x has its operator, its size and no mark
abbrev pub Put : (ℕ → ℕ) → List ℕ → ℕ → ℕ → ℕ → Type 0
Put ar line n j x = (operator x ≡ get_or line j 0) × (size x ≡ skip ar 1 (drop j (take n line))) × (marked x ≡ false)

abbrev pub PutFrom : (ℕ → ℕ) → List ℕ → ℕ → List ℕ → ℕ → Type 0
PutFrom ar line n symbols i = (j : ℕ) → i ≤ j → j < n → Put ar line n j (get_or symbols j 0)

abbrev pub invariant-loop-i : goal.invariant-loop-i
invariant-loop-i l =
    (l.i ≤ l.n) × (length l.symbols ≡ 1024) × PutFrom (arity_in l.operators) l.line l.n l.symbols l.i × (l.i < l.n → l.behind ≡ size (get_or l.symbols l.i 0))
