-- What a book and a state say, as the tables and arrays have it: steps, arities and arguments of the term's symbols, stacks, frames and awaited EXITs. Assumes nothing.
use mathlib.Core.Bool.{Bool}
use mathlib.Core.List.{List, [], ◌∷◌}
use mathlib.Core.Path.{◌≡◌, refl, sym, ap, ◌∙◌}
use Prim.Native.Nat.{ℕ, zero, suc, ◌+◌, ◌<◌}
use native.Mathlib.Omega.{arith}
use lib.ListN.{length, get_or, drop}
use Rattle.paper.specs.Book.{Book, arity, steps}
use Rattle.paper.specs.Sound.{All}
use Rattle.flat.specs.Symbols.{skip, argument}
use Rattle.flat.specs.Machine.{FlatUnit, FlatState, unit}
use Rattle.flat.specs.Rules.{nth_frame, exits_to, upto, stack}
use Rattle.flat.specs.Meets.{frame}
use Rattle.flat.specs.Tested.{awaited}
use Rattle.flat.proofs.Sizes.{skip_same}
use Rattle.symbol.specs.Record.{operator}
use Rattle.tables.specs.Layout.{arity_in, steps_in, Rowed}
use Rattle.tables.specs.Tables.{Tables}
use Rattle.tables.proofs.Laws.{all_at, arity_at, steps_at, rowed_at}
use Rattle.term.specs.Present.{length_in, operators_in}
use Rattle.term.proofs.Sized.{operators_length, operator_is}
use Rattle.units.specs.Stacks.{Store}
use Rattle.units.proofs.Units.{length_units}
use Rattle.point.specs.Saved.{Arrays, Standing, state}
use Rattle.point.specs.declared.Numbers.{Numbers}
use Rattle.point_frames.specs.Counting.{Kept, stack_in, frame_in, all_exits}
use Rattle.point_frames.specs.Promises.{Termed, OperatorSaid, Said, Point, ByPoint}
use Rattle.point_frames.specs.Test.{frames_tested}

module _ {operators symbols : List ℕ} (t : Termed operators symbols) where
  -- the operator o that the code reads at offset a
  module _ (a o : ℕ) (l : a < length_in symbols) (e : o ≡ operator (get_or symbols a 0)) where
    within : a < length (operators_in symbols)
    within = omega (arith, operators_length (arity_in operators) symbols t.sized)

    pub operator_read : o ≡ get_or (operators_in symbols) a 0
    operator_read = e ∙ operator_is (arity_in operators) symbols t.sized a l

    pub rowed_here : Rowed operators o
    rowed_here = rw operator_read (all_at (Rowed operators) 0 (operators_in symbols) a t.rowed within)

    module _ {B : Book} {s : FlatState} (q : Said operators symbols B s) where
      here : o ≡ get_or s.symbols a 0
      here = operator_read ∙ ap (λ (xs : List ℕ). get_or xs a 0) (sym q.symbols_are)

      said : OperatorSaid operators B o
      said = rw operator_read (all_at (OperatorSaid operators B) 0 (operators_in symbols) a q.each within)

      pub steps_said : steps_in operators o ≡ steps B (get_or s.symbols a 0)
      steps_said = said.steps_are ∙ ap (steps B) here

      pub arity_said : arity_in operators o ≡ arity B (get_or s.symbols a 0)
      arity_said = said.arity_is ∙ ap (arity B) here

  pub length_said : {B : Book} {s : FlatState} → Said operators symbols B s → length s.symbols ≡ length_in symbols
  length_said q = ap length q.symbols_are ∙ operators_length (arity_in operators) symbols t.sized

arities : (operators : List ℕ) (B : Book) (i : ℕ) (xs : List ℕ) → All (OperatorSaid operators B) xs → All (λ o. arity_in operators o ≡ arity B o) (drop i xs)
arities operators B zero [] h = tt
arities operators B zero (x ∷ xs) h = (h.0.arity_is, arities operators B 0 xs h.1)
arities operators B (suc i) [] h = tt
arities operators B (suc i) (x ∷ xs) h = arities operators B i xs h.1

pub argument_said : {operators symbols : List ℕ} {B : Book} {s : FlatState} → Said operators symbols B s → (a i : ℕ) →
    argument (arity_in operators) (operators_in symbols) a i ≡ argument (arity B) s.symbols a i
unfolding argument
argument_said {operators} {symbols} {B} {s} q a i =
    ap (λ (k : ℕ). suc a + k) (skip_same (arity_in operators) (arity B) i (drop (suc a) (operators_in symbols)) (arities operators B (suc a) (operators_in symbols) q.each))
    ∙ ap (λ (xs : List ℕ). suc a + skip (arity B) i (drop (suc a) xs)) (sym q.symbols_are)

module _ {operators symbols : List ℕ} {k : Store} {n : ℕ} {B : Book} {s : FlatState} (q : Point operators symbols k n B s) where
  pub units_said : length s.units ≡ n
  units_said = ap length q.units_are ∙ length_units k.work k.cells 0 n

  pub stack_said : (v : ℕ) → stack s v ≡ stack_in k n v
  stack_said v = ap (λ (us : List FlatUnit). (unit us v).stack) q.units_are

  pub frame_said : (v i : ℕ) → frame s v i ≡ frame_in k n v i
  frame_said v i = ap (nth_frame i) (stack_said v)

  pub awaited_said : (v i : ℕ) → awaited B s v i ≡ all_exits k n v i
  awaited_said v i =
      ap (λ (us : List FlatUnit). upto (λ w. exits_to v i (unit us w).stack) (length us)) q.units_are
      ∙ ap (upto (λ w. exits_to v i (stack_in k n w))) (length_units k.work k.cells 0 n)

-- A SAVED RUN BY THE TABLES OF ITS BOOK

all_known : {P : ℕ → Type 0} {m : ℕ} (xs : List ℕ) → ((o : ℕ) → o < m → P o) → All (λ o. o < m) xs → All P xs
all_known [] f h = tt
all_known (x ∷ xs) f h = (f x h.0, all_known xs f h.1)

module _ {bytes operators rules : List ℕ} {B : Book} (T : Tables bytes operators rules B) {x : Numbers} {a : Arrays}
    (p : Standing (arity_in operators) (length B.operators) x a) where
  pub standing_term : Termed operators a.symbols
  standing_term = record { sized = p.sized; rowed = all_known (operators_in a.symbols) (rowed_at T) p.known }

  pub standing_units : Kept a.store x.units
  standing_units = record { fit = p.fit; few = p.few_units }

  pub standing_point : Point operators a.symbols a.store x.units B (state x a)
  standing_point = record {
    said = record {
      symbols_are = refl;
      each = all_known (operators_in a.symbols) (λ o l. record { arity_is = arity_at T o l; steps_are = steps_at T o l }) p.known;
    };
    units_are = refl;
  }

  -- what the test of its frames and stacks says of it
  pub frames_said : {r : Bool} → ByPoint operators a.symbols a.store x.units frames_tested r → frames_tested B (state x a) ≡ r
  frames_said t = t.is B (state x a) standing_point
