-- Laws of the steps of an operator, by what the table answers of one place: the steps from there on are that answer in front of those behind it; and how many FORKs
-- and names there can be. Assumes nothing.
use mathlib.Core.Bool.{Bool, true, false, not}
use mathlib.Core.List.{List, [], ◌∷◌}
use mathlib.Core.Option.{Option, none, some}
use mathlib.Core.Path.{◌≡◌, refl, sym, ap, subst, ◌∙◌}
use Prim.Native.Nat.{ℕ, zero, suc, ◌+◌, ◌≤◌, ◌<◌}
use native.Mathlib.Decide.{dec_lt}
use native.Mathlib.Numerals.{add-one}
use native.Mathlib.Omega.{arith}
use lib.ListN.{length, drop, drop_of_length-le, length-drop}
use Rattle.paper.specs.Strategy.{Step}
use Rattle.flat.specs.Rules.{forks_left}
use Rattle.flat.specs.Meets.{named}
use Rattle.flat.specs.Tested.{and, unnamed}
use Rattle.tables.specs.Layout.{step_of, code_in, steps_in, Rowed}
use Rattle.tables.proofs.Rows.{here_is}
use Rattle.point_frames.specs.declared.steps.Rest.{Rest}
use Rattle.point_frames.specs.Steps.{prepend, Told}

none_behind : {A : Type 0} (k : ℕ) (xs : List A) → drop k xs ≡ [] → drop (suc k) xs ≡ []
none_behind zero [] e = refl
none_behind zero (x ∷ xs) e = let z : ◌≡◌ {A = ℕ} 0 1 = cc in absurd (omega arith)
none_behind (suc k) [] e = refl
none_behind (suc k) (x ∷ xs) e = none_behind k xs e

-- the answer z at place k, and the steps from there on
in_front : {operators : List ℕ} {o : ℕ} → Rowed operators o → (k : ℕ) → k < 16 → (z : Option Step) → z ≡ step_of (code_in operators o k) →
    prepend z (drop (suc k) (steps_in operators o)) ≡ drop k (steps_in operators o)
in_front {operators} {o} r k l none e = let d = here_is r k l none e in none_behind k (steps_in operators o) d ∙ sym d
in_front r k l (some s) e = sym (here_is r k l (some s) e).0

-- from place 16 on there are none
none_left : {operators : List ℕ} {o : ℕ} → Rowed operators o → (k : ℕ) → 16 ≤ k → drop k (steps_in operators o) ≡ []
none_left {operators} {o} r k h =
    let p : length (steps_in operators o) ≤ k = omega (arith, r.short) in drop_of_length-le (steps_in operators o) p

forks_most : (ss : List Step) → forks_left ss ≤ length ss
unfolding forks_left
forks_most [] = omega arith
forks_most (Step.visit i ∷ ss) = omega (arith, forks_most ss)
forks_most (Step.fork i ∷ ss) = omega (arith, forks_most ss)
forks_most (Step.join c ∷ ss) = omega arith
forks_most (Step.whole ∷ ss) = omega (arith, forks_most ss)

named_most : (ss : List Step) → named ss ≤ length ss
unfolding named
named_most [] = omega arith
named_most (Step.visit i ∷ ss) = omega (arith, named_most ss)
named_most (Step.fork i ∷ ss) = omega (arith, named_most ss)
named_most (Step.join c ∷ ss) = omega (arith, named_most ss)
named_most (Step.whole ∷ ss) = omega (arith, named_most ss)

-- an operator's row has 15 steps at most
module _ {operators : List ℕ} {o : ℕ} (r : Rowed operators o) (k : ℕ) where
  pub few_forks : forks_left (drop k (steps_in operators o)) ≤ 15
  few_forks = omega (arith, forks_most (drop k (steps_in operators o)), length-drop k (steps_in operators o), r.short)

  pub few_named : named (drop k (steps_in operators o)) ≤ 15
  few_named = omega (arith, named_most (drop k (steps_in operators o)), length-drop k (steps_in operators o), r.short)

  -- WHAT IS LEFT, FROM THE LAST STEP TO STEP k

  pub told_first : (q : Rest) → Told [] q → Told (drop 16 (steps_in operators o)) q
  told_first q t = subst (λ (ss : List Step). Told ss q) (sym (none_left r 16 (omega arith))) t

  pub told_next : (q q' : Rest) (i : ℕ) (z : Option Step) → k < 16 → i ≡ k + 1 → z ≡ step_of (code_in operators o k) → Told (drop i (steps_in operators o)) q →
      ((ss : List Step) → Told ss q → Told (prepend z ss) q') → Told (drop k (steps_in operators o)) q'
  told_next q q' i z l e d t f =
      subst (λ (ss : List Step). Told ss q') (in_front r k l z d) (f _ (subst (λ (j : ℕ). Told (drop j (steps_in operators o)) q) (e ∙ add-one k) t))

  pub told_last : (q : Rest) (i : ℕ) → i ≤ k → (k ≤ 16 → k ≤ i) → (16 ≤ k → i ≡ 16) → Told (drop i (steps_in operators o)) q → Told (drop k (steps_in operators o)) q
  told_last q i l m n t = go (dec_lt k 16)
    where
      go : Dec (k < 16) → Told (drop k (steps_in operators o)) q
      go (yes h) = let g = m (omega arith) in let e : i ≡ k = omega arith in subst (λ (j : ℕ). Told (drop j (steps_in operators o)) q) e t
      go (no h) =
          subst (λ (ss : List Step). Told ss q) (none_left r i (omega (arith, n (omega arith))) ∙ sym (none_left r k (omega arith))) t

  -- WHETHER AN ARGUMENT IS NAMED, FROM STEP k ON

  module _ (x : ℕ) (b : Bool) (z : Option Step) (l : k < 16) (d : z ≡ step_of (code_in operators o k))
      (f : (ss : List Step) → unnamed x (prepend z ss) ≡ and (not b) (unnamed x ss)) where
    unnamed_here : unnamed x (drop k (steps_in operators o)) ≡ and (not b) (unnamed x (drop (suc k) (steps_in operators o)))
    unnamed_here = sym (ap (unnamed x) (in_front r k l z d)) ∙ f (drop (suc k) (steps_in operators o))

    pub named_here : b ≡ true → unnamed x (drop k (steps_in operators o)) ≡ false
    unfolding and
    named_here e = unnamed_here ∙ ap (λ (c : Bool). and (not c) (unnamed x (drop (suc k) (steps_in operators o)))) e

    pub unnamed_past : b ≡ false → (i : ℕ) → i ≡ k + 1 → unnamed x (drop k (steps_in operators o)) ≡ unnamed x (drop i (steps_in operators o))
    unfolding and
    unnamed_past e i j =
        unnamed_here ∙ ap (λ (c : Bool). and (not c) (unnamed x (drop (suc k) (steps_in operators o)))) e
        ∙ ap (λ (i : ℕ). unnamed x (drop i (steps_in operators o))) (sym (j ∙ add-one k))

  pub unnamed_end : (x : ℕ) → 16 ≤ k → unnamed x (drop k (steps_in operators o)) ≡ true
  unfolding unnamed
  unnamed_end x h = ap (unnamed x) (none_left r k h)
