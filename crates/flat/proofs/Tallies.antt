-- An entry raises the counts by one at most: rewrites stay within the budget, and FORKs, granted or kept, are at most the entries. Assumes nothing.
use mathlib.Core.Bool.{Bool, true, false}
use mathlib.Core.List.{List, [], ◌∷◌}
use mathlib.Core.Logic.{inl, inr}
use mathlib.Core.Option.{Option, none, some}
use mathlib.Core.Path.{◌≡◌, refl, sym, ◌∙◌, subst}
use Prim.Native.Nat.{ℕ, zero, suc, ◌+◌, ◌-◌, ◌≤◌}
use native.Mathlib.Omega.{arith}
use lib.Dec.{eqb}
use lib.ListN.{length, get_or, drop}
use Rattle.paper.specs.Strategy.{Step}
use Rattle.paper.specs.Book.{Symbol, Book, arity, steps}
use Rattle.paper.specs.Machine.{Limits, exceeds}
use Rattle.paper.proofs.Tests.{eqb_cases}
use Rattle.flat.specs.Symbols.{Binding, Hit, argument, fill, rewrite}
use Rattle.flat.specs.Machine.{Frame, unit, first_idle, FlatState, FlatOutcome, going, ended, do_fork, do_join, do_rewrite, do_whole, do_step, carry_out, turn, flat_entry}

-- rewrites are within the budget, and no more FORKs are counted than n
pub record Tallied (budget n : ℕ) (s : FlatState) : Type 0 where
  pub allowed : s.rewrites ≤ budget
  pub forks : s.granted + s.kept ≤ n

abbrev TalliedBy : ℕ → ℕ → FlatOutcome → Type 0
TalliedBy budget n (going s) = Tallied budget n s
TalliedBy budget n (ended e s) = Unit {0}

module _ (B : Book) (L : Limits) (u : ℕ) (s : FlatState) {n : ℕ} (t : Tallied L.budget n s) where
  same : (s' : FlatState) → s'.rewrites ≡ s.rewrites → s'.granted ≡ s.granted → s'.kept ≡ s.kept → Tallied L.budget (suc n) s'
  same s' a b c = record { allowed = omega (arith, t.allowed); forks = omega (arith, t.forks) }

  by_fork : (a b k c : ℕ) (ss : List Step) (fs : List Frame) (v : Option ℕ) → TalliedBy L.budget (suc n) (do_fork B L u s a b k c ss fs v)
  unfolding do_fork
  by_fork a b k c ss fs none = record { allowed = t.allowed; forks = omega (arith, t.forks) }
  by_fork a b k c ss fs (some v) = record { allowed = t.allowed; forks = omega (arith, t.forks) }

  by_join : (a k c : ℕ) (ss : List Step) (fs : List Frame) → TalliedBy L.budget (suc n) (do_join B L u s a k c ss fs)
  unfolding do_join
  by_join a k zero ss fs = same _ refl refl refl
  by_join a k (suc c) ss fs = same _ refl refl refl

  by_rewrite : (a e : ℕ) (right : List Symbol) (b : Binding) (fs : List Frame) (spent over : Bool) → spent ≡ eqb s.rewrites L.budget →
      TalliedBy L.budget (suc n) (do_rewrite B L u s a e right b fs spent over)
  unfolding do_rewrite
  by_rewrite a e right b fs true over q = tt
  by_rewrite a e right b fs false true q = tt
  by_rewrite a e right b fs false false q = record { allowed = below; forks = omega (arith, t.forks) }
    where
      below : suc s.rewrites ≤ L.budget
      below = elim (eqb_cases s.rewrites L.budget) [
        | inl p ↦ (let z : true ≡ false = sym p.0 ∙ sym q in let y : ◌≡◌ {A = ℕ} 0 1 = cc in absurd (omega arith))
        | inr p ↦ omega (arith, t.allowed, p.1)
      ]

  by_whole : (a k c : ℕ) (ss : List Step) (fs : List Frame) (h : Hit) → TalliedBy L.budget (suc n) (do_whole B L u s a k c ss fs h)
  unfolding do_whole
  by_whole a k c ss fs Hit.miss = same _ refl refl refl
  by_whole a k c ss fs (Hit.hit right b e) =
      by_rewrite a e right b fs (eqb s.rewrites L.budget)
      (exceeds L.symbols (length (fill right b s.symbols) + (length s.symbols - (e - a)))) refl

  by_step : (a k c : ℕ) (ss : List Step) (fs : List Frame) → TalliedBy L.budget (suc n) (do_step B L u s a k c ss fs)
  unfolding do_step
  by_step a k c [] fs = same _ refl refl refl
  by_step a k c (Step.visit i ∷ ss) fs = same _ refl refl refl
  by_step a k c (Step.fork i ∷ ss) fs = by_fork a (argument (arity B) s.symbols a i) k c ss fs (first_idle s.units)
  by_step a k c (Step.join d ∷ ss) fs = by_join a k c ss fs
  by_step a k c (Step.whole ∷ ss) fs = by_whole a k c ss fs (rewrite (arity B) B.rules a s.symbols)

  by_frame : (fs : List Frame) (f : Frame) → TalliedBy L.budget (suc n) (carry_out B L u s fs f)
  unfolding carry_out
  by_frame fs (Frame.job a zero c) = same _ refl refl refl
  by_frame fs (Frame.job a (suc k) c) = by_step a (suc k) c (drop k (steps B (get_or s.symbols a 0))) fs
  by_frame fs (Frame.exit v i) = same _ refl refl refl
  by_frame fs Frame.sleep = same _ refl refl refl
  by_frame fs Frame.bingo = tt

  by_turn : (r : ℕ) (fs : List Frame) → TalliedBy L.budget (suc n) (turn B L u s r fs)
  unfolding turn
  by_turn (suc r) fs = same _ refl refl refl
  by_turn zero [] = same _ refl refl refl
  by_turn zero (f ∷ fs) = by_frame fs f

  pub tallied_next : {s' : FlatState} → flat_entry B L u s ≡ going s' → Tallied L.budget (suc n) s'
  unfolding flat_entry
  tallied_next e = subst (TalliedBy L.budget (suc n)) e (by_turn (unit s.units u).rank (unit s.units u).stack)
