-- Laws of a job's arguments, passed by their sizes: where the next one stands, and whether one of them is taken. Assumes nothing.
use mathlib.Core.Bool.{Bool, true, false}
use mathlib.Core.List.{List}
use mathlib.Core.Path.{◌≡◌, refl, sym, ap, ap₂, ◌∙◌}
use Prim.Native.Nat.{ℕ, zero, suc, ◌+◌, ◌-◌, ◌≤◌, ◌<◌}
use native.Mathlib.Decide.{ℕ_discrete}
use native.Mathlib.Numerals.{add-one}
use native.Mathlib.Omega.{arith}
use lib.Dec.{eqb}
use lib.ListN.{get_or, drop}
use lib.Seq.{drop-drop}
use Rattle.paper.specs.Book.{arity, steps}
use Rattle.paper.specs.Strategy.{Step}
use Rattle.flat.specs.Symbols.{skip, argument}
use Rattle.flat.specs.Machine.{Frame}
use Rattle.flat.specs.Tested.{and, or, some_below, unnamed, taken}
use Rattle.flat.proofs.Sizes.{skip_plus}
use Rattle.symbol.specs.Record.{operator, size}
use Rattle.tables.specs.Layout.{arity_in, steps_in}
use Rattle.term.specs.Present.{length_in, operators_in}
use Rattle.term.proofs.Hopping.{hop_none}
use Rattle.term.proofs.Sized.{size_is, ends_inside, argument_is, argument_inside}
use Rattle.point_frames.specs.Promises.{Termed, ByTerm}
use Rattle.point_frames.proofs.Books.{operator_read, steps_said, arity_said, argument_said}
use Rattle.point_frames.proofs.Tests.{NotJob}

-- SOME NUMBER BELOW

module _ (f : ℕ → Bool) where
  pub some_none : some_below f 0 ≡ false
  unfolding some_below
  some_none = refl

  pub some_past : (x y : ℕ) → some_below f x ≡ false → f x ≡ false → y ≡ x + 1 → some_below f y ≡ false
  unfolding some_below or
  some_past x y e d z = ap (some_below f) (z ∙ add-one x) ∙ ap₂ or d e

  pub some_here : (x n : ℕ) → x < n → f x ≡ true → some_below f n ≡ true
  unfolding some_below or
  some_here x zero l e = absurd (omega arith)
  some_here x (suc n) l e =
      elim (ℕ_discrete x n) [
        | yes d ↦ ap (λ (b : Bool). or b (some_below f n)) (ap f (sym d) ∙ e)
        | no d ↦ ap (or (f n)) (some_here x n (omega arith) e) ∙ or_true (f n)
      ]
    where
      or_true : (b : Bool) → or b true ≡ true
      or_true true = refl
      or_true false = refl

some_same : (f g : ℕ → Bool) (n : ℕ) → ((x : ℕ) → f x ≡ g x) → some_below f n ≡ some_below g n
unfolding some_below
some_same f g zero e = refl
some_same f g (suc n) e = ap₂ or (e n) (some_same f g n e)

-- argument x of the term at offset b, of operator o, stands at offset a, and no step from step k on names it, by the tables
abbrev pub free : List ℕ → List ℕ → ℕ → ℕ → ℕ → ℕ → ℕ → Bool
free operators symbols a b o k x = and (eqb a (argument (arity_in operators) (operators_in symbols) b x)) (unnamed x (drop k (steps_in operators o)))

module _ {operators symbols : List ℕ} (t : Termed operators symbols) (b o : ℕ) (l : b < length_in symbols) (e : o ≡ operator (get_or symbols b 0)) where
  -- where its arguments stand
  pub argument_first : b + 1 ≡ argument (arity_in operators) (operators_in symbols) b 0
  argument_first = sym (hop_none _ 0 (b + 1) refl) ∙ argument_is (arity_in operators) symbols t.sized b 0 l (omega arith)

  module _ (x p n : ℕ) (h : x < n) (d : n ≡ arity_in operators o) (is : p ≡ argument (arity_in operators) (operators_in symbols) b x) where
    pub argument_in : p < length_in symbols
    argument_in =
        let few : x < arity_in operators (get_or (operators_in symbols) b 0) = omega (arith, h, d, ap (arity_in operators) (operator_read t b o l e)) in
        omega (arith, is, argument_inside (arity_in operators) symbols t.sized b x l few)

    pub argument_ends : p + size (get_or symbols p 0) ≤ length_in symbols
    argument_ends = ends_inside (arity_in operators) symbols t.sized p argument_in

    pub argument_next : (z : ℕ) → z ≡ size (get_or symbols p 0) → p + z ≡ argument (arity_in operators) (operators_in symbols) b (x + 1)
    unfolding argument
    argument_next z g =
        let ar = arity_in operators in
        let xs = operators_in symbols in
        let u : skip ar 1 (drop (skip ar x (drop (suc b) xs)) (drop (suc b) xs)) ≡ skip ar 1 (drop p xs) =
        ap (skip ar 1) (drop-drop (skip ar x (drop (suc b) xs)) (suc b) xs ∙ ap (λ (j : ℕ). drop j xs) (sym is)) in
        omega (arith, is, g, u, size_is ar symbols t.sized p argument_in, skip_plus ar x 1 (drop (suc b) xs))

  -- whether one is taken, by the tables
  module _ (b' c a : ℕ) (eb : b ≡ b') where
    pub taken_some : (k j n : ℕ) (r : Bool) → (k ≡ 0 → ⊥) → j ≡ k - 1 → n ≡ arity_in operators o → some_below (free operators symbols a b o j) n ≡ r →
        ByTerm operators symbols (λ B s. taken B s (Frame.job b' k c) a) r
    unfolding taken
    taken_some zero j n r z d m y = absurd (z refl)
    taken_some (suc k) j n r z d m y = record {
      is = λ B s q.
          let f : j ≡ k = omega arith in
          ap (λ (y : ℕ). some_below (λ x. and (eqb a (argument (arity B) s.symbols y x)) (unnamed x (drop k (steps B (get_or s.symbols y 0))))) (arity B (get_or s.symbols y 0)))
          (sym eb)
          ∙ ap (some_below (λ x. and (eqb a (argument (arity B) s.symbols b x)) (unnamed x (drop k (steps B (get_or s.symbols b 0))))))
          (sym (m ∙ arity_said t b o l e q))
          ∙ some_same _ (free operators symbols a b o j) n
          (λ x.
          ap₂ (λ (u : ℕ) (ss : List Step). and (eqb a u) (unnamed x ss)) (sym (argument_said q b x))
          (ap₂ (λ (i : ℕ) (ss : List Step). drop i ss) (sym f) (sym (steps_said t b o l e q))))
          ∙ y;
    }

pub taken_visit : {operators symbols : List ℕ} (b k c a : ℕ) → k ≡ 0 → ByTerm operators symbols (λ B s. taken B s (Frame.job b k c) a) false
unfolding taken
taken_visit b k c a e = rw e (record { is = λ B s q. refl })

pub taken_other : {operators symbols : List ℕ} (f : Frame) (a : ℕ) → NotJob f → ByTerm operators symbols (λ B s. taken B s f a) false
unfolding taken
taken_other (Frame.job b k c) a z = absurd z
taken_other (Frame.exit v i) a z = record { is = λ B s q. refl }
taken_other Frame.sleep a z = record { is = λ B s q. refl }
taken_other Frame.bingo a z = record { is = λ B s q. refl }
