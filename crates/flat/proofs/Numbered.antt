-- JOIN numbers for a state that has none: each symbol has as many as its strategy has JOINs, in the order of the symbols. No number then stands twice, since no two
-- jobs are at one offset. Assumes nothing.
use mathlib.Core.Bool.{true, false}
use mathlib.Core.List.{List, [], ◌∷◌}
use mathlib.Core.Logic.{inl, inr}
use mathlib.Core.Path.{◌≡◌, refl, ◌∙◌, ap}
use Prim.Native.Nat.{ℕ, zero, suc, ◌+◌, ◌-◌, ◌<◌, ◌≤◌}
use native.Mathlib.Omega.{arith}
use lib.Dec.{ltb}
use lib.ListN.{length, drop, get_or}
use Rattle.paper.specs.Tree.{preorder, Position}
use Rattle.paper.specs.Strategy.{Step}
use Rattle.paper.specs.Book.{Term, Book, steps}
use Rattle.paper.specs.Machine.{Order, orders, joins_in}
use Rattle.paper.specs.Sound.{In}
use Rattle.paper.proofs.Numbers.{tally, tally_append, joins_of, mentions_of, same_is, other_is, if_same, joins_below, joins_once}
use Rattle.paper.proofs.Tests.{ltb_cases, ltb_true, ltb_false}
use Rattle.paper.proofs.Trees.{size_preorder}
use Rattle.flat.specs.Rules.{InGroup, jobs_at, upto}
use Rattle.flat.specs.Relation.{offset, Rooted, recount, Placed, PlacedUnit, at, list_of, frame_of, stack_of, GoodFrame, GoodFrames, Holds, JoinAt}
use Rattle.flat.proofs.Tables.{joins_at, mentions_at}
use Rattle.flat.proofs.Bounds.{jobs_cons}
use Rattle.flat.proofs.Lists.{upto_le, upto_zero}
use Rattle.flat.proofs.Offsets.{offset_inside, symbol_at}
use Rattle.flat.proofs.Relation.{Good}
use Rattle.flat.proofs.Steps.{Shape, Settled, shape_drop, recount_shape}
use Rattle.flat.proofs.Invariant.{joins_tally, mentions_tally}

-- the number of the first JOIN of the symbol at offset a
unfoldable pub number : Book → List ℕ → ℕ → ℕ
unfolding steps joins_in
number B [] a = 0
number B (x ∷ xs) zero = 0
number B (x ∷ xs) (suc a) = joins_in (steps B x) + number B xs a

abbrev pub Numbered : Book → Term → List Placed → Type 0
Numbered B t [] = Unit {0}
Numbered B t (Placed.job p o k c j ∷ gs) = (j ≡ number B (preorder t) (offset p t)) × Numbered B t gs
Numbered B t (Placed.exit w i q j ∷ gs) = Numbered B t gs
Numbered B t (Placed.sleep ∷ gs) = Numbered B t gs
Numbered B t (Placed.bingo ∷ gs) = Numbered B t gs

joins_drop : (k : ℕ) (ss : List Step) → joins_in (drop k ss) ≤ joins_in ss
unfolding joins_in
joins_drop zero ss = omega arith
joins_drop (suc k) [] = omega arith
joins_drop (suc k) (Step.visit i ∷ ss) = joins_drop k ss
joins_drop (suc k) (Step.fork i ∷ ss) = joins_drop k ss
joins_drop (suc k) (Step.join c ∷ ss) = omega (arith, joins_drop k ss)
joins_drop (suc k) (Step.whole ∷ ss) = joins_drop k ss

joins_recount : (c : ℕ) (ss : List Step) → joins_in (recount c ss) ≡ joins_in ss
unfolding joins_in recount
joins_recount c [] = refl
joins_recount c (Step.visit i ∷ ss) = joins_recount c ss
joins_recount c (Step.fork i ∷ ss) = joins_recount c ss
joins_recount c (Step.join d ∷ ss) = refl
joins_recount c (Step.whole ∷ ss) = joins_recount c ss

group_joins : (ss : List Step) → InGroup ss → 1 ≤ joins_in ss
unfolding joins_in
group_joins [] g = absurd g
group_joins (Step.visit i ∷ ss) g = group_joins ss g
group_joins (Step.fork i ∷ ss) g = group_joins ss g
group_joins (Step.join c ∷ ss) g = omega arith
group_joins (Step.whole ∷ ss) g = absurd g

recount_group : (c : ℕ) (ss : List Step) → InGroup (recount c ss) → InGroup ss
unfolding recount
recount_group c [] g = g
recount_group c (Step.visit i ∷ ss) g = recount_group c ss g
recount_group c (Step.fork i ∷ ss) g = recount_group c ss g
recount_group c (Step.join d ∷ ss) g = g
recount_group c (Step.whole ∷ ss) g = g

-- no number behind the last JOIN's is mentioned
mentions_behind : (k j : ℕ) (p : Position) (ss : List Step) → Shape ss → j + joins_in ss ≤ k → tally (mentions_of k) (orders j p ss) ≡ 0
unfolding tally orders mentions_of joins_in
mentions_behind k j p [] sh l = refl
mentions_behind k j p (Step.visit i ∷ ss) sh l = omega (arith, mentions_behind k j p ss sh.1 l)
mentions_behind k j p (Step.fork i ∷ ss) sh l =
    let g = group_joins ss sh.0 in omega (arith, other_is k j 1 (λ e. omega (arith, e, l, g)), mentions_behind k j p ss sh.1 l)
mentions_behind k j p (Step.join c ∷ ss) sh l = omega (arith, other_is k j 1 (λ e. omega (arith, e, l)), mentions_behind k (suc j) p ss sh.1 (omega (arith, l)))
mentions_behind k j p (Step.whole ∷ ss) sh l = omega (arith, mentions_behind k j p ss sh l)

joins_behind : (k : ℕ) (os : List Order) → tally (mentions_of k) os ≡ 0 → tally (joins_of k) os ≡ 0
unfolding tally mentions_of
joins_behind k [] e = refl
joins_behind k (o ∷ os) e = omega (arith, joins_behind k os (omega (arith, e)), e)

module _ (B : Book) where
  number_next : (xs : List ℕ) (a : ℕ) → a < length xs → number B xs (suc a) ≡ number B xs a + joins_in (steps B (get_or xs a 0))
  unfolding number
  number_next [] a l = absurd (omega (arith, l))
  number_next (x ∷ []) zero l = omega arith
  number_next (x ∷ y ∷ xs) zero l = omega arith
  number_next (x ∷ xs) (suc a) l = omega (arith, number_next xs a (omega (arith, l)))

  number_most : (xs : List ℕ) (a : ℕ) → number B xs a ≤ number B xs (length xs)
  unfolding number
  number_most [] a = omega arith
  number_most (x ∷ xs) zero = omega arith
  number_most (x ∷ xs) (suc a) = omega (arith, number_most xs a)

  -- the symbol that has the number k
  unfoldable holder : List ℕ → ℕ → ℕ
  unfolding joins_in
  holder [] k = 0
  holder (x ∷ xs) k = elim (ltb k (joins_in (steps B x))) [ true ↦ 0 | false ↦ suc (holder xs (k - joins_in (steps B x))) ]

  holder_is : (xs : List ℕ) (a k : ℕ) → a < length xs → number B xs a ≤ k → k < number B xs (suc a) → a ≡ holder xs k
  unfolding number holder
  holder_is [] a k l m n = absurd (omega (arith, l))
  holder_is (x ∷ xs) zero k l m n =
      rw (ltb_true k (joins_in (steps B x)) (omega (arith, n, first_zero xs)), holder)
    where
      first_zero : (xs : List ℕ) → number B xs 0 ≡ 0
      first_zero [] = refl
      first_zero (y ∷ ys) = refl
  holder_is (x ∷ xs) (suc a) k l m n =
      rw (ltb_false k (joins_in (steps B x)) (omega (arith, m)), holder)
      (ap suc (holder_is xs a (k - joins_in (steps B x)) (omega (arith, l)) (omega (arith, m)) (omega (arith, m, n))))

-- A STACK'S NUMBERS

module _ (B : Book) (settled : Settled B) (t : Term) where
  abbrev N : ℕ → ℕ
  N a = number B (preorder t) a

  -- a job's orders mention its symbol's numbers only
  job_joins : (κ : ℕ) (p : Position) (o k c j : ℕ) → Rooted o p t → j ≡ N (offset p t) →
      tally (joins_of κ) (orders j p (recount c (drop k (steps B o)))) ≤ if_same (offset p t) (holder B (preorder t) κ) 1
  job_joins κ p o k c j r e =
      let ss : List Step = recount c (drop k (steps B o)) in
      let l : offset p t < length (preorder t) = (let x = offset_inside p t r.0 in let y = size_preorder t in omega (arith, x, y)) in
      let nx = number_next B (preorder t) (offset p t) l in
      let so : joins_in (steps B (get_or (preorder t) (offset p t) 0)) ≡ joins_in (steps B o) = ap (λ (z : ℕ). joins_in (steps B z)) (symbol_at p t r.0 ∙ r.1) in
      let dr = joins_drop k (steps B o) in
      let rc = joins_recount c (drop k (steps B o)) in
      let sh = recount_shape c (drop k (steps B o)) (shape_drop k (steps B o) (settled o)) in
      elim (ltb_cases κ j) [
        | inl q ↦ (let a = joins_below κ j p ss q.1 in omega (arith, a))
        | inr q ↦
            elim (ltb_cases κ (j + joins_in ss)) [
              | inl w ↦
                  (let a = q.1 in let b = w.1 in
                  let f = holder_is B (preorder t) (offset p t) κ l (omega (arith, a, e)) (omega (arith, b, e, nx, so, dr, rc)) in
                  let g = same_is (offset p t) (holder B (preorder t) κ) 1 f in
                  let h = joins_once κ j p ss in omega (arith, g, h))
              | inr w ↦ (let a = joins_behind κ (orders j p ss) (mentions_behind κ j p ss sh w.1) in omega (arith, a))
            ]
      ]

  list_joins : (κ : ℕ) (gs : List Placed) → GoodFrames B t gs → Numbered B t gs → tally (joins_of κ) (list_of B gs) ≤ jobs_at (holder B (preorder t) κ) (stack_of t gs)
  unfolding list_of frame_of tally joins_of jobs_at
  list_joins κ [] g n = omega arith
  list_joins κ (Placed.job p o zero c j ∷ gs) g n =
      let a = jobs_cons (holder B (preorder t) κ) (offset p t) 0 c (stack_of t gs) in omega (arith, a, list_joins κ gs g.1 n.1)
  list_joins κ (Placed.job p o (suc k) c j ∷ gs) g n =
      let a = jobs_cons (holder B (preorder t) κ) (offset p t) (suc k) c (stack_of t gs) in
      let b = job_joins κ p o k c j g.0.0 n.0 in
      omega (arith, a, b, list_joins κ gs g.1 n.1, tally_append (joins_of κ) (orders j p (recount c (drop k (steps B o)))) (list_of B gs))
  list_joins κ (Placed.exit w i q j ∷ gs) g n = omega (arith, list_joins κ gs g.1 n)
  list_joins κ (Placed.sleep ∷ gs) g n = omega (arith, list_joins κ gs g.1 n)
  list_joins κ (Placed.bingo ∷ gs) g n = omega (arith, list_joins κ gs g.1 n)

  -- the number of a job that holds a JOIN is one of those given
  holds_number : (g : Placed) (m : ℕ) (q : Position) → GoodFrame B t g → Numbered B t (g ∷ []) → Holds B g m q → m < N (length (preorder t))
  holds_number (Placed.job p o zero c j) m q g n h = absurd h
  holds_number (Placed.job p o (suc k) c j) m q g n h =
      let l : offset p t < length (preorder t) = (let x = offset_inside p t g.0.0 in let y = size_preorder t in omega (arith, x, y)) in
      let nx = number_next B (preorder t) (offset p t) l in
      let so : joins_in (steps B (get_or (preorder t) (offset p t) 0)) ≡ joins_in (steps B o) = ap (λ (z : ℕ). joins_in (steps B z)) (symbol_at p t g.0.0 ∙ g.0.1) in
      let dr = joins_drop k (steps B o) in
      let gj = group_joins (drop k (steps B o)) h.0 in
      let a = h.1 in let b = n.0 in
      let mo = number_most B (preorder t) (suc (offset p t)) in omega (arith, nx, so, dr, gj, a, b, mo)
  holds_number (Placed.exit w i p j) m q g n h = absurd h
  holds_number Placed.sleep m q g n h = absurd h
  holds_number Placed.bingo m q g n h = absurd h

  numbered_head : (g : Placed) (gs : List Placed) → Numbered B t (g ∷ gs) → Numbered B t (g ∷ []) × Numbered B t gs
  numbered_head (Placed.job p o k c j) gs n = ((n.0, tt), n.1)
  numbered_head (Placed.exit w i q j) gs n = (tt, n)
  numbered_head Placed.sleep gs n = (tt, n)
  numbered_head Placed.bingo gs n = (tt, n)

  join_number : (gs : List Placed) (i m : ℕ) (q : Position) → GoodFrames B t gs → Numbered B t gs → JoinAt B gs i m q → m < N (length (preorder t))
  join_number [] i m q g n h = absurd h
  join_number (x ∷ gs) i m q g n (inl h) = holds_number x m q g.0 (numbered_head x gs n).0 h.1
  join_number (x ∷ gs) i m q g n (inr h) = join_number gs i m q g.1 (numbered_head x gs n).1 h

  list_mentions : (κ : ℕ) (gs : List Placed) → N (length (preorder t)) ≤ κ → GoodFrames B t gs → Numbered B t gs →
      ((w i : ℕ) (q : Position) (j : ℕ) → In (Placed.exit w i q j) gs → j < N (length (preorder t))) → tally (mentions_of κ) (list_of B gs) ≡ 0
  unfolding list_of tally mentions_of
  list_mentions κ [] l g n x = refl
  list_mentions κ (Placed.job p o zero c j ∷ gs) l g n x = omega (arith, list_mentions κ gs l g.1 n.1 (λ w i q m h. x w i q m (inr h)))
  list_mentions κ (Placed.job p o (suc k) c j ∷ gs) l g n x =
      let ss : List Step = recount c (drop k (steps B o)) in
      let b : offset p t < length (preorder t) = (let x = offset_inside p t g.0.0.0 in let y = size_preorder t in omega (arith, x, y)) in
      let nx = number_next B (preorder t) (offset p t) b in
      let so : joins_in (steps B (get_or (preorder t) (offset p t) 0)) ≡ joins_in (steps B o) = ap (λ (z : ℕ). joins_in (steps B z)) (symbol_at p t g.0.0.0 ∙ g.0.0.1) in
      let dr = joins_drop k (steps B o) in
      let rc = joins_recount c (drop k (steps B o)) in
      let mo = number_most B (preorder t) (suc (offset p t)) in
      let e = n.0 in
      let a = mentions_behind κ j p ss (recount_shape c (drop k (steps B o)) (shape_drop k (steps B o) (settled o))) (omega (arith, nx, so, dr, rc, mo, e, l)) in
      omega (arith, a, list_mentions κ gs l g.1 n.1 (λ w i q m h. x w i q m (inr h)), tally_append (mentions_of κ) (orders j p ss) (list_of B gs))
  list_mentions κ (Placed.exit w i q j ∷ gs) l g n x =
      let a = x w i q j (inl refl) in
      let b = other_is κ j 1 (λ e. omega (arith, e, a, l)) in
      omega (arith, b, list_mentions κ gs l g.1 n (λ w i q m h. x w i q m (inr h)))
  list_mentions κ (Placed.sleep ∷ gs) l g n x = omega (arith, list_mentions κ gs l g.1 n (λ w i q m h. x w i q m (inr h)))
  list_mentions κ (Placed.bingo ∷ gs) l g n x = omega (arith, list_mentions κ gs l g.1 n (λ w i q m h. x w i q m (inr h)))

-- ALL STACKS

module _ (B : Book) (settled : Settled B) (t : Term) (U : List PlacedUnit) (good : Good B t U) (numbered : (v : ℕ) → Numbered B t (at U v).frames)
    (distinct : (x n : ℕ) → upto (λ v. jobs_at x (stack_of t (at U v).frames)) n ≤ 1) where
  pub numbers_once : (k : ℕ) → upto (λ v. joins_at k (list_of B (at U v).frames)) (length U) ≤ 1
  numbers_once κ =
      let h : ℕ = holder B (preorder t) κ in
      let b = upto_le (λ v. joins_at κ (list_of B (at U v).frames)) (λ v. jobs_at h (stack_of t (at U v).frames)) (length U)
      (λ v. (let x = joins_tally κ (list_of B (at U v).frames) in let y = list_joins B settled t κ (at U v).frames (good.jobs v) (numbered v) in omega (arith, x, y))) in
      omega (arith, b, distinct h (length U))

  pub numbers_fresh : (k : ℕ) → number B (preorder t) (length (preorder t)) ≤ k → upto (λ v. mentions_at k (list_of B (at U v).frames)) (length U) ≡ 0
  numbers_fresh κ l =
      upto_zero (λ v. mentions_at κ (list_of B (at U v).frames)) (length U)
      (λ v. mentions_tally κ (list_of B (at U v).frames)
      ∙ list_mentions B settled t κ (at U v).frames l (good.jobs v) (numbered v)
      (λ w i q j h. join_number B settled t (at U w).frames i j q (good.jobs w) (numbered w) (good.exits v w i q j h).1))
