-- A saved run in arrays, by the tables of its book: what the test of the idle queue asks, and what it then speaks of. Assumes nothing.
use mathlib.Core.List.{List}
use mathlib.Core.Path.{refl, sym}
use Prim.Native.Nat.{ℕ, ◌<◌}
use native.Mathlib.Omega.{arith}
use native.Mathlib.Decide.{dec_lt}
use lib.ListN.{length, get_or, get_or-eq_default}
use Rattle.paper.specs.Book.{Book}
use Rattle.tables.specs.Layout.{arity_in}
use Rattle.tables.specs.Tables.{Tables}
use Rattle.tables.proofs.Laws.{all_at, steps_at, rowed_at}
use Rattle.term.specs.Present.{operators_in}
use Rattle.term.proofs.Sized.{operators_length, length_some}
use Rattle.point.specs.Saved.{Arrays, state, Standing}
use Rattle.point.specs.declared.Numbers.{Numbers}
use Rattle.point_order.specs.Promises.{Readable, Kept}

module _ {bytes operators rules : List ℕ} {B : Book} (T : Tables bytes operators rules B) {x : Numbers} {a : Arrays}
    (p : Standing (arity_in operators) (length B.operators) x a) where
  abbrev xs : List ℕ
  xs = operators_in a.symbols

  -- behind the last symbol stands operator 0, which the book has, since it has that of the first
  operator_known : (i : ℕ) → get_or xs i 0 < length B.operators
  operator_known i =
      elim (dec_lt i (length xs)) [
        | yes l ↦ all_at _ 0 xs i p.known l
        | no l ↦
            let n : 0 < length xs = omega (arith, operators_length (arity_in operators) a.symbols p.sized, length_some (arity_in operators) a.symbols p.sized) in
            omega (arith, get_or-eq_default xs 0 {n = i} (omega arith), all_at (λ o. o < length B.operators) 0 xs 0 p.known n)
      ]

  pub standing_readable : Readable operators a.symbols
  standing_readable = record { long = p.sized.long; most = p.sized.most; rowed = λ i. rowed_at T (get_or xs i 0) (operator_known i) }

  pub standing_kept : Kept operators a.symbols a.store x.units B (state x a)
  standing_kept = record {
    told = record { symbols_are = refl; steps_are = λ i. sym (steps_at T (get_or xs i 0) (operator_known i)) };
    units_are = refl;
  }
