-- Laws of the steps of an operator, by what the table answers of one place: whether there is a step, and the count of the next JOIN. Assumes nothing.
use mathlib.Core.Path.{◌≡◌, refl, sym, ap}
use mathlib.Core.Bool.{true, false}
use mathlib.Core.List.{List, [], ◌∷◌}
use Prim.Native.Nat.{ℕ, ◌+◌, ◌≤◌, ◌<◌}
use native.Mathlib.Omega.{arith}
use native.Mathlib.Numerals.{add-one}
use lib.ListN.{length, drop, drop_of_length-le}
use Rattle.paper.specs.Strategy.{Step}
use Rattle.flat.specs.Machine.{Frame, next_count, proceed}
use Rattle.tables.specs.Layout.{step, step_of, code_in, steps_in, Rowed}
use Rattle.tables.specs.declared.Step as D
use Rattle.tables.proofs.Rows.{here_is}
use Rattle.orders.specs.Promises.{is_some, Counted}

-- the answer z at place k, and the steps from there on
module _ {operators : List ℕ} {o : ℕ} (r : Rowed operators o) (k : ℕ) (l : k < 16) (z : D.Step) (e : step z ≡ step_of (code_in operators o k)) where
  pub none_here : z ≡ D.Step.None → is_some (drop k (steps_in operators o)) ≡ false
  none_here d = ap is_some (rw d at (here_is r k l (step z) e))

  pub count_none : z ≡ D.Step.None → Counted (drop k (steps_in operators o)) 0
  unfolding next_count
  count_none d = record { is = sym (ap next_count (rw d at (here_is r k l (step z) e))); few = omega arith }

  pub count_here : (c : ℕ) → z ≡ D.Step.Join c → Counted (drop k (steps_in operators o)) c
  unfolding next_count
  count_here c d =
      let (h, f) = rw d at (here_is r k l (step z) e) in
      record { is = sym (ap next_count h); few = f }

-- what is known where an answer is none of those that are named
module _ {operators : List ℕ} {o : ℕ} (r : Rowed operators o) (k : ℕ) (l : k < 16) where
  pub some_here : (z : D.Step) → step z ≡ step_of (code_in operators o k) → (z ≡ D.Step.None → ⊥) → is_some (drop k (steps_in operators o)) ≡ true
  some_here D.Step.None e q = absurd (q refl)
  some_here D.Step.Whole e q = ap is_some (here_is r k l _ e).0
  some_here (D.Step.Visit i) e q = ap is_some (here_is r k l _ e).0
  some_here (D.Step.Fork i) e q = ap is_some (here_is r k l _ e).0
  some_here (D.Step.Join c) e q = ap is_some (here_is r k l _ e).0

  pub count_past : (z : D.Step) → step z ≡ step_of (code_in operators o k) → (z ≡ D.Step.None → ⊥) → ((c : ℕ) → z ≡ D.Step.Join c → ⊥) →
      (i : ℕ) → i ≡ k + 1 → next_count (drop k (steps_in operators o)) ≡ next_count (drop i (steps_in operators o))
  unfolding next_count
  count_past D.Step.None e q n i j = absurd (q refl)
  count_past D.Step.Whole e q n i j = rw (j, add-one k) (ap next_count (here_is r k l _ e).0)
  count_past (D.Step.Visit a) e q n i j = rw (j, add-one k) (ap next_count (here_is r k l _ e).0)
  count_past (D.Step.Fork a) e q n i j = rw (j, add-one k) (ap next_count (here_is r k l _ e).0)
  count_past (D.Step.Join c) e q n i j = absurd (n c refl)

pub count_end : {operators : List ℕ} {o : ℕ} → Rowed operators o → (k : ℕ) → 16 ≤ k → next_count (drop k (steps_in operators o)) ≡ 0
unfolding next_count
count_end {operators} {o} r k h =
    let p : length (steps_in operators o) ≤ k = omega (arith, r.short) in ap next_count (drop_of_length-le (steps_in operators o) p)

-- the job goes on, or no step is left
pub proceed_some : (ss : List Step) → is_some ss ≡ true → (a k c : ℕ) (fs : List Frame) → proceed a k c ss fs ≡ Frame.job a k c ∷ fs
unfolding proceed
proceed_some [] e a k c fs = let z : ◌≡◌ {A = ℕ} 0 1 = cc in absurd (omega arith)
proceed_some (s ∷ ss) e a k c fs = refl

pub proceed_none : (ss : List Step) → is_some ss ≡ false → (a k c : ℕ) (fs : List Frame) → proceed a k c ss fs ≡ fs
unfolding proceed
proceed_none [] e a k c fs = refl
proceed_none (s ∷ ss) e a k c fs = let z : ◌≡◌ {A = ℕ} 0 1 = cc in absurd (omega arith)
