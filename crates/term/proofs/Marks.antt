-- Laws of a term that is marked in the working array: its root has the mark then, and all else is as it was. Assumes nothing.
use mathlib.Core.Bool.{true}
use mathlib.Core.List.{List, map}
use mathlib.Core.Path.{◌≡◌, sym, ap, ap₂, ◌∙◌}
use Prim.Native.Nat.{ℕ, ◌<◌}
use lib.ListN.{get_or, take, set}
use lib.Seq.{take-set-lt}
use Rattle.flat.specs.Sizes as flat
use Rattle.symbol.specs.Record.{operator, marked, size}
use Rattle.symbol.proofs.Record.{map_take, operator_at, size_at}
use Rattle.term.specs.Present.{length_in, operators_in, marks_in, sizes_in, Sized}
use Rattle.term.specs.Promises.{MarkedAt}

module _ {at : ℕ} {symbols symbols' : List ℕ} (m : MarkedAt at symbols symbols') where
  -- each symbol's operator and size
  pub mark_operator : (i : ℕ) → operator (get_or symbols' i 0) ≡ operator (get_or symbols i 0)
  mark_operator i = sym (operator_at symbols' i) ∙ ap (λ (os : List ℕ). get_or os i 0) m.operators_are ∙ operator_at symbols i

  pub mark_size : (i : ℕ) → size (get_or symbols' i 0) ≡ size (get_or symbols i 0)
  mark_size i = sym (size_at symbols' i) ∙ ap (λ (zs : List ℕ). get_or zs i 0) m.sizes_are ∙ size_at symbols i

  -- the present term
  pub mark_length : length_in symbols' ≡ length_in symbols
  mark_length = mark_size 0

  -- of its symbols what is the same of all
  kept : (f : ℕ → ℕ) → map f symbols' ≡ map f symbols → map f (take (length_in symbols') symbols') ≡ map f (take (length_in symbols) symbols)
  kept f e = map_take f (length_in symbols') symbols' ∙ ap₂ (λ (n : ℕ) (ys : List ℕ). take n ys) mark_length e ∙ sym (map_take f (length_in symbols) symbols)

  pub mark_operators : operators_in symbols' ≡ operators_in symbols
  mark_operators = kept operator m.operators_are

  pub mark_sizes : sizes_in symbols' ≡ sizes_in symbols
  mark_sizes = kept size m.sizes_are

  pub mark_marks : at < length_in symbols → marks_in symbols' ≡ set (marks_in symbols) at true
  mark_marks h =
      map_take marked (length_in symbols') symbols'
      ∙ ap₂ (λ n ms. take n ms) mark_length m.marks_are
      ∙ take-set-lt (length_in symbols) (map marked symbols) at true h
      ∙ ap (λ ms. set ms at true) (sym (map_take marked (length_in symbols) symbols))

  pub mark_sized : {ar : ℕ → ℕ} → Sized ar symbols → Sized ar symbols'
  mark_sized {ar} s =
      record {
        long = m.long ∙ s.long;
        most = rw mark_length s.most;
        term = rw mark_operators s.term;
        true_sizes = mark_sizes ∙ s.true_sizes ∙ ap (flat.sizes ar) (sym mark_operators);
      }
