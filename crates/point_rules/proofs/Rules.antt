-- The test of a point is what the tests of its frames, its order of placing and its idle queue come to, where the arrays hold a run. Assumes nothing.
use mathlib.Core.Bool.{Bool, true, false, not}
use mathlib.Core.List.{List, [], ◌∷◌}
use mathlib.Core.Path.{◌≡◌, refl, sym, ap, ap₂, subst, ◌∙◌}
use Prim.Native.Nat.{ℕ, zero, suc, ◌≤◌, ◌<◌}
use native.Mathlib.Omega.{arith}
use lib.Dec.{eqb, leb, ltb}
use lib.ListN.{length}
use borrow.Author.Tests.{eq-eqb, le-leb, lt-leb, lt-ltb, le-ltb}
use Rattle.paper.specs.Book.{Book, arity}
use Rattle.paper.specs.Idle.{times}
use Rattle.paper.specs.Machine.{Limits}
use Rattle.paper.specs.Sound.{All}
use Rattle.paper.proofs.Operators.{same_true}
use Rattle.flat.specs.Machine.{FlatState, idle_count}
use Rattle.flat.specs.Rules.{exits_in, of_rank, stack}
use Rattle.flat.specs.Meets.{PointRules}
use Rattle.flat.specs.Sizes.{sizes}
use Rattle.flat.specs.Tested.{and, each_below, each_of, each_frame, frame_good, stack_good, rank_good, unit_good, order_good, tested, point_tested}
use Rattle.flat.proofs.Tested.{Decides, point_tested_rules}
use Rattle.tables.specs.Layout.{arity_in}
use Rattle.tables.proofs.Laws.{arity_at}
use Rattle.term.specs.Present.{operators_in, Sized}
use Rattle.term.proofs.Sized.{operators_length, marks_length, sized_same}
use Rattle.units.proofs.Units.{length_units}
use Rattle.point.specs.Saved.{Arrays, state}
use Rattle.point.specs.declared.Numbers.{Numbers}
use Rattle.point_frames.specs.Promises.{ByPoint}
use Rattle.point_frames.specs.Test.{one_job, stack_tested, frames_tested}
use Rattle.point_frames.proofs.Books.{frames_said}
use Rattle.point_order.specs.Promises.{OrderDecided, RanksDecided}
use Rattle.point_order.proofs.Tests.{and_true, below_same}
use Rattle.point_order.proofs.Books.{standing_kept}
use Rattle.parking.specs.Form.{limits}
use Rattle.point_rules.specs.Promises.{OfBook, Decided}

-- TESTS

drop_true : {a : Bool} (b : Bool) → a ≡ true → and a b ≡ b
unfolding and
drop_true b e = ap (λ (x : Bool). and x b) e

and_assoc : (a b c : Bool) → and a (and b c) ≡ and (and a b) c
unfolding and
and_assoc true b c = refl
and_assoc false b c = refl

-- the parts in the order in which the code makes them: frames, order of placing, ranks
regroup : (d s c g a o r : Bool) → and d (and (and s (and c g)) (and a (and o r))) ≡ and (and d s) (and (and a (and c o)) (and g r))
unfolding and
regroup false s c g a o r = refl
regroup true false c g a o r = refl
regroup true true c g false o r = second c g
  where
    second : (x y : Bool) → and (and x y) false ≡ false
    second true true = refl
    second true false = refl
    second false y = refl
regroup true true false g true o r = refl
regroup true true true true true o r = refl
regroup true true true false true true r = refl
regroup true true true false true false r = refl

below_and : (f g : ℕ → Bool) (n : ℕ) → each_below (λ v. and (f v) (g v)) n ≡ and (each_below f n) (each_below g n)
unfolding each_below and
below_and f g zero = refl
below_and f g (suc n) = ap (and (and (f n) (g n))) (below_and f g n) ∙ swap (f n) (g n) (each_below f n) (each_below g n)
  where
    swap : (a b c d : Bool) → and (and a b) (and c d) ≡ and (and a c) (and b d)
    swap true true c d = refl
    swap true false true d = refl
    swap true false false d = refl
    swap false b c d = refl

all_below : (n : ℕ) (xs : List ℕ) → All (λ o. o < n) xs → each_of (λ o. ltb o n) xs ≡ true
unfolding each_of and
all_below n [] h = refl
all_below n (x ∷ xs) h = ap₂ and (lt-ltb x n h.0) (all_below n xs h.1)

all_from : {P : ℕ → Type 0} {n : ℕ} (xs : List ℕ) → ((o : ℕ) → o < n → P o) → All (λ o. o < n) xs → All P xs
all_from [] f h = tt
all_from (x ∷ xs) f h = (f x h.0, all_from xs f h.1)

-- THE PARTS OF THE TEST

module _ (B : Book) (z : FlatState) where
  abbrev n : ℕ
  n = length z.units

  abbrev counts : ℕ → Bool
  counts v = eqb (exits_in (stack z v)) (times v z.placed)

  units_are : each_below (unit_good B z) n ≡ and (each_below (stack_tested B z) n) (and (each_below counts n) (each_below (rank_good B z) n))
  unfolding unit_good
  units_are =
      below_same (unit_good B z) (λ v. and (stack_tested B z v) (and (counts v) (rank_good B z v))) n
      (λ v l. and_assoc (stack_good B z v (stack z v)) (each_frame (frame_good B z v) (stack z v)) (and (counts v) (rank_good B z v)))
      ∙ below_and (stack_tested B z) (λ v. and (counts v) (rank_good B z v)) n
      ∙ ap (and (each_below (stack_tested B z) n)) (below_and counts (rank_good B z) n)

  abbrev ordered : Bool
  ordered = and (each_of (λ v. ltb v n) z.placed) (and (each_below counts n) (order_good B z [] z.placed))

  abbrev queued : Bool
  queued = and (each_below (rank_good B z) n) (each_below (λ r. eqb (of_rank (suc r) z.units) 1) (idle_count z.units))

  pub parts_are : and (each_below (one_job z) (length z.symbols)) (and (each_below (unit_good B z) n)
      (and (each_of (λ v. ltb v n) z.placed) (and (order_good B z [] z.placed) (each_below (λ r. eqb (of_rank (suc r) z.units) 1) (idle_count z.units)))))
      ≡ and (frames_tested B z) (and ordered queued)
  unfolding frames_tested
  parts_are =
      let ones = each_below (one_job z) (length z.symbols) in
      let once = each_below (λ r. eqb (of_rank (suc r) z.units) 1) (idle_count z.units) in
      ap (λ (b : Bool). and ones (and b (and (each_of (λ v. ltb v n) z.placed) (and (order_good B z [] z.placed) once)))) units_are
      ∙ regroup ones (each_below (stack_tested B z) n) (each_below counts n) (each_below (rank_good B z) n) (each_of (λ v. ltb v n) z.placed)
      (order_good B z [] z.placed) once

-- A RUN IN ARRAYS

module _ {operators : List ℕ} {x : Numbers} {a : Arrays} {B : Book} (p : OfBook operators x a B) where
  abbrev z : FlatState
  z = state x a

  abbrev xs : List ℕ
  xs = operators_in a.symbols

  abbrev L : Limits
  L = limits x.budget

  sized : Sized (arity B) a.symbols
  sized = sized_same (arity_in operators) (arity B) a.symbols (all_from xs (arity_at p.tables) p.standing.known) p.standing.sized

  long : length xs ≤ 1024
  long = omega (arith, operators_length (arity B) a.symbols sized, sized.most)

  units_length : length z.units ≡ x.units
  units_length = length_units a.store.work a.store.cells 0 x.units

  pub tested_is : point_tested B L z ≡ and (leb x.rewrites x.budget) (and (frames_tested B z) (and (ordered B z) (queued B z)))
  unfolding point_tested tested
  tested_is =
      ap (and (tested B L z)) (ap₂ and (all_below (length B.operators) xs p.standing.known) (le-leb n 8 (omega (arith, units_length, p.standing.few_units))))
      ∙ and_true (tested B L z)
      ∙ drop_true _ sized.term
      ∙ drop_true _ (ap not (le-ltb 1024 (length xs) long))
      ∙ drop_true _ (same_true z.sizes (sizes (arity B) xs) sized.true_sizes)
      ∙ drop_true _ (eq-eqb (length z.marks) (length xs) (marks_length (arity B) a.symbols sized ∙ sym (operators_length (arity B) a.symbols sized)))
      ∙ ap (and (leb x.rewrites x.budget))
      (drop_true _ (le-leb 1 n (omega (arith, units_length, p.standing.some_units))) ∙ parts_are B z)
    where
      n : ℕ
      n = length z.units

  order_is : {r : Bool} → OrderDecided a.store x.units a.order r → ordered B z ≡ r
  order_is d =
      ap (λ (m : ℕ). and (each_of (λ v. ltb v m) z.placed) (and (each_below (counts B z) m) (order_good B z [] z.placed))) units_length
      ∙ sym (d.is B z refl refl)

  queue_is : {r : Bool} → RanksDecided operators a.symbols a.store x.units r → queued B z ≡ r
  queue_is d =
      ap (λ (m : ℕ). and (each_below (rank_good B z) m) (each_below (λ r. eqb (of_rank (suc r) z.units) 1) (idle_count z.units))) units_length
      ∙ sym (d.is B z (standing_kept p.tables p.standing))

-- THE ANSWER: rewrites above the budget, a rule on frames or on the order broken, or what the test of the idle queue says

module _ {operators : List ℕ} {x : Numbers} {a : Arrays} where
  pub over_budget : x.budget < x.rewrites → Decided operators x a false
  unfolding and
  over_budget l = record {
    is = λ B p.
        sym (tested_is p ∙ ap (λ (b : Bool). and b (and (frames_tested B (state x a)) (and (ordered B (state x a)) (queued B (state x a))))) (lt-leb x.rewrites x.budget l));
  }

  module _ (l : x.rewrites ≤ x.budget) {f : Bool} (d : ByPoint operators a.symbols a.store x.units frames_tested f) where
    frames_first : (B : Book) → OfBook operators x a B → point_tested B (limits x.budget) (state x a) ≡ and f (and (ordered B (state x a)) (queued B (state x a)))
    frames_first B p =
        tested_is p ∙ drop_true _ (le-leb x.rewrites x.budget l)
        ∙ ap (λ (b : Bool). and b (and (ordered B (state x a)) (queued B (state x a)))) (frames_said p.tables p.standing d)

    pub frames_break : f ≡ false → Decided operators x a false
    unfolding and
    frames_break e = record {
      is = λ B p. sym (frames_first B p ∙ ap (λ (b : Bool). and b (and (ordered B (state x a)) (queued B (state x a)))) e);
    }

    module _ (e : f ≡ true) {o : Bool} (q : OrderDecided a.store x.units a.order o) where
      order_next : (B : Book) → OfBook operators x a B → point_tested B (limits x.budget) (state x a) ≡ and o (queued B (state x a))
      order_next B p = frames_first B p ∙ drop_true _ e ∙ ap (λ (b : Bool). and b (queued B (state x a))) (order_is p q)

      pub order_breaks : o ≡ false → Decided operators x a false
      unfolding and
      order_breaks g = record { is = λ B p. sym (order_next B p ∙ ap (λ (b : Bool). and b (queued B (state x a))) g) }

      pub queue_says : o ≡ true → {r : Bool} → RanksDecided operators a.symbols a.store x.units r → Decided operators x a r
      queue_says g h = record { is = λ B p. sym (order_next B p ∙ drop_true _ g ∙ queue_is p h) }

-- the answer decides the rules themselves
pub decided_rules : {operators : List ℕ} {x : Numbers} {a : Arrays} {r : Bool} {B : Book} → Decided operators x a r → OfBook operators x a B →
    Decides r (PointRules B (limits x.budget) (state x a))
decided_rules {x = x} {a = a} {B = B} d p =
    subst (λ (b : Bool). Decides b (PointRules B (limits x.budget) (state x a))) (sym (d.is B p)) (point_tested_rules B (limits x.budget) (state x a))
