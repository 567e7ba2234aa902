-- `splice::grow` meets its contract: one symbol after the other is put right. Assumes nothing.
use mathlib.Core.List.{List}
use mathlib.Core.Path.{◌≡◌}
use Prim.Native.Nat.{ℕ, ◌≤◌, ◌<◌}
use lib.ListN.{length, get_or}
use Rattle.splice.specs.Promises.{Regrown}
use Rattle.splice.proofs.grow.Given as goal

-- the symbols before offset i are put right, those from there on are as they were
pub record Passed (a e n i : ℕ) (xs ys : List ℕ) : Type 0 where
  pub before : (j : ℕ) → j < i → Regrown a e n j (get_or xs j 0) (get_or ys j 0)
  pub behind : (j : ℕ) → i ≤ j → get_or ys j 0 ≡ get_or xs j 0
  pub long : length ys ≡ length xs

abbrev pub invariant-loop-i : goal.invariant-loop-i
invariant-loop-i l = Passed l.a l.e l.n l.i l.initial.symbols l.symbols
