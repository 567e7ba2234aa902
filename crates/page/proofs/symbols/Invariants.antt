-- `page::symbols` meets its contract. The loop's invariant: what puts the fields that are left puts them all; each has at most four bytes. Assumes nothing.
use mathlib.Core.List.{List}
use Rattle.paper.specs.Page.{spaced}
use Rattle.stream.specs.Promises.{WrittenAt}
use mathlib.Core.Path.{◌≡◌}
use Prim.Native.Nat.{ℕ, ◌+◌, ◌*◌, ◌≤◌}
use lib.ListN.{length, drop}
use Rattle.page.proofs.symbols.Given as goal

abbrev pub invariant-loop-symbol : goal.invariant-loop-symbol
invariant-loop-symbol l =
    (l.p ≤ l.at + 4 * l.symbol-index) × (length l.page ≡ 8192)
    × ((page' : List ℕ) (r : ℕ) → WrittenAt l.p (spaced (drop l.symbol-index l.term)) l.page page' r → WrittenAt l.at (spaced l.term) l.initial.page page' r)
