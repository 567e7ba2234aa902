-- Laws of a frame and the one below it: what a job and an EXIT may stand on, and a stack from the top down. Assumes nothing.
use mathlib.Core.Bool.{Bool, true, false, not}
use mathlib.Core.List.{List, [], ◌∷◌}
use mathlib.Core.Path.{◌≡◌, refl, sym, ap, ap₂, ◌∙◌}
use Prim.Native.Nat.{ℕ, zero, suc, ◌+◌, ◌<◌}
use native.Mathlib.Omega.{arith}
use lib.Dec.{eqb, leb}
use lib.ListN.{length}
use borrow.Author.Tests.{le-leb}
use Rattle.paper.specs.Book.{Book}
use Rattle.paper.proofs.Tests.{eqb_false}
use Rattle.flat.specs.Machine.{Frame, FlatState}
use Rattle.flat.specs.Rules.{steps_left}
use Rattle.flat.specs.Tested.{and, at_join, taken, carries, holds, stack_good}
use Rattle.units.specs.Frames.{flat}
use Rattle.units.specs.Stacks.{base, stack_of, height_in, Store}
use Rattle.units.specs.declared.frames.Exit.{Exit}
use Rattle.units.specs.declared.frames.Frame as D
use Rattle.units.specs.declared.frames.Job.{Job}
use Rattle.point_frames.specs.declared.steps.Rest.{Rest}
use Rattle.point_frames.specs.Steps.{Told}
use Rattle.point_frames.specs.Counting.{frame_in}
use Rattle.point_frames.specs.Promises.{Left, ByTerm, ByPoint}
use Rattle.point_frames.specs.Test.{stands}
use Rattle.point_frames.proofs.Books.{frame_said}
use Rattle.point_frames.proofs.Stacks.{lowest, stack_none}

-- WHAT A JOB MAY STAND ON

module _ {operators symbols : List ℕ} {k : Store} {n : ℕ} (a : ℕ) where
  pub carries_job : (b j c : ℕ) {r : Bool} → ByTerm operators symbols (λ B s. taken B s (Frame.job b j c) a) r →
      ByPoint operators symbols k n (λ B s. carries B s a (Frame.job b j c ∷ [])) r
  unfolding carries
  carries_job b j c t = record { is = λ B s q. t.is B s q.said }

  pub carries_exit : (w i w' i' : ℕ) (g : Frame) → w' ≡ w → i' ≡ i → frame_in k n w' i' ≡ g → {r : Bool} → ByTerm operators symbols (λ B s. taken B s g a) r →
      ByPoint operators symbols k n (λ B s. carries B s a (Frame.exit w i ∷ [])) r
  unfolding carries
  carries_exit w i w' i' g ew ei e t = record {
    is = λ B s q.
        ap (λ (f : Frame). taken B s f a) (frame_said q w i ∙ ap₂ (λ (x y : ℕ). frame_in k n x y) (sym ew) (sym ei) ∙ e) ∙ t.is B s q.said;
  }

  pub carries_sleep : ByPoint operators symbols k n (λ B s. carries B s a (Frame.sleep ∷ [])) false
  unfolding carries
  carries_sleep = record { is = λ B s q. refl }

  pub carries_bingo : ByPoint operators symbols k n (λ B s. carries B s a (Frame.bingo ∷ [])) (eqb a 0)
  unfolding carries
  carries_bingo = record { is = λ B s q. refl }

-- WHAT AN EXIT MAY STAND ON

holds_by : (B : Book) (s : FlatState) (a k c : ℕ) {r : Rest} → Told (steps_left B s.symbols (Frame.job a k c)) r →
    holds B s (Frame.job a k c ∷ []) ≡ and r.joins (leb 1 r.count)
unfolding holds steps_left at_join and
holds_by B s a zero c {r} t = sym (ap (λ (b : Bool). and b (leb 1 r.count)) t.joins)
holds_by B s a (suc k) c t = ap₂ (λ (b : Bool) (m : ℕ). and b (leb 1 m)) (sym t.joins) (sym t.count)

module _ {operators symbols : List ℕ} where
  pub holds_not : (a k c : ℕ) {r : Rest} → Left operators symbols (Frame.job a k c) r → r.joins ≡ false →
      ByTerm operators symbols (λ B s. holds B s (Frame.job a k c ∷ [])) false
  unfolding and
  holds_not a k c {r} t e = record { is = λ B s q. holds_by B s a k c (t.is B s q) ∙ ap (λ (b : Bool). and b (leb 1 r.count)) e }

  pub holds_join : (a k c : ℕ) {r : Rest} → Left operators symbols (Frame.job a k c) r → r.joins ≡ true →
      ByTerm operators symbols (λ B s. holds B s (Frame.job a k c ∷ [])) (leb 1 r.count)
  unfolding and
  holds_join a k c {r} t e = record { is = λ B s q. holds_by B s a k c (t.is B s q) ∙ ap (λ (b : Bool). and b (leb 1 r.count)) e }

  pub holds_sleep : ByTerm operators symbols (λ B s. holds B s (Frame.sleep ∷ [])) true
  unfolding holds
  holds_sleep = record { is = λ B s q. refl }

  pub holds_other : (f : D.Frame) → ((x : Job) → f ≡ D.Frame.Job x → ⊥) → (f ≡ D.Frame.Sleep → ⊥) → ByTerm operators symbols (λ B s. holds B s (flat f ∷ [])) false
  unfolding holds
  holds_other (D.Frame.Job x) q r = absurd (q x refl)
  holds_other (D.Frame.Exit x) q r = record { is = λ B s p. refl }
  holds_other D.Frame.Sleep q r = absurd (r refl)
  holds_other D.Frame.Bingo q r = record { is = λ B s p. refl }

-- A STACK FROM THE TOP DOWN

carries_any : (B : Book) (s : FlatState) (a : ℕ) (g : Frame) (fs : List Frame) → carries B s a (g ∷ fs) ≡ carries B s a (g ∷ [])
unfolding carries
carries_any B s a (Frame.job b k c) fs = refl
carries_any B s a (Frame.exit w i) fs = refl
carries_any B s a Frame.sleep fs = refl
carries_any B s a Frame.bingo fs = refl

holds_any : (B : Book) (s : FlatState) (g : Frame) (fs : List Frame) → holds B s (g ∷ fs) ≡ holds B s (g ∷ [])
unfolding holds
holds_any B s (Frame.job b zero c) fs = refl
holds_any B s (Frame.job b (suc k) c) fs = refl
holds_any B s (Frame.exit w i) fs = refl
holds_any B s Frame.sleep fs = refl
holds_any B s Frame.bingo fs = refl

two : (B : Book) (s : FlatState) (v : ℕ) (f g : Frame) (fs : List Frame) → stack_good B s v (f ∷ g ∷ fs) ≡ and (stands B s f g) (stack_good B s v (g ∷ fs))
unfolding stack_good and
two B s v (Frame.job a k c) g fs = ap (λ (b : Bool). and b (stack_good B s v (g ∷ fs))) (carries_any B s a g fs)
two B s v (Frame.exit w i) g fs = ap (λ (b : Bool). and b (stack_good B s v (g ∷ fs))) (holds_any B s g fs)
two B s v Frame.sleep g fs = ap (λ (b : Bool). and b (leb 1 v)) (eqb_false (suc (length fs)) 0 (λ e. omega arith))
two B s v Frame.bingo g fs = ap (λ (b : Bool). and b (eqb v 0)) (eqb_false (suc (length fs)) 0 (λ e. omega arith))

-- the frame f on the lowest h, and the one below it; b says whether it may stand there
module _ (B : Book) (s : FlatState) (k : Store) (n v : ℕ) (l : v < n) (h j : ℕ) (q : j < height_in k.cells v) (e : h ≡ j + 1) (f g : Frame)
    (is : frame_in k n v j ≡ g) (b : Bool) (t : stands B s f g ≡ b) where
  below : stack_good B s v (f ∷ stack_of k.work (base v) h) ≡ and b (stack_good B s v (g ∷ stack_of k.work (base v) j))
  below =
      ap (λ (fs : List Frame). stack_good B s v (f ∷ fs)) (lowest k n v l h j q e ∙ ap (λ (x : Frame). x ∷ stack_of k.work (base v) j) is)
      ∙ two B s v f g (stack_of k.work (base v) j) ∙ ap (λ (x : Bool). and x (stack_good B s v (g ∷ stack_of k.work (base v) j))) t

  pub stack_fail : b ≡ false → stack_good B s v (f ∷ stack_of k.work (base v) h) ≡ false
  unfolding and
  stack_fail z = below ∙ ap (λ (x : Bool). and x (stack_good B s v (g ∷ stack_of k.work (base v) j))) z

  pub stack_pass : b ≡ true → stack_good B s v (f ∷ stack_of k.work (base v) h) ≡ stack_good B s v (g ∷ stack_of k.work (base v) j)
  unfolding and
  stack_pass z = below ∙ ap (λ (x : Bool). and x (stack_good B s v (g ∷ stack_of k.work (base v) j))) z

pub stack_empty : (B : Book) (s : FlatState) (v : ℕ) → stack_good B s v [] ≡ false
unfolding stack_good
stack_empty B s v = refl

pub stack_last : (B : Book) (s : FlatState) (v : ℕ) (f : Frame) (w : List ℕ) (from h : ℕ) → h ≡ 0 → stack_good B s v (f ∷ stack_of w from h) ≡ stack_good B s v (f ∷ [])
stack_last B s v f w from h e = ap (λ (fs : List Frame). stack_good B s v (f ∷ fs)) (stack_none w from h e)

module _ (B : Book) (s : FlatState) (v : ℕ) where
  pub last_sleep : stack_good B s v (Frame.sleep ∷ []) ≡ not (eqb v 0)
  unfolding stack_good and
  last_sleep = go v
    where
      go : (v : ℕ) → leb 1 v ≡ not (eqb v 0)
      go zero = refl
      go (suc v) = le-leb 1 (suc v) (omega arith) ∙ sym (ap not (eqb_false (suc v) 0 (λ e. omega arith)))

  pub last_bingo : stack_good B s v (Frame.bingo ∷ []) ≡ eqb v 0
  unfolding stack_good and
  last_bingo = refl

  pub last_other : (f : D.Frame) → (f ≡ D.Frame.Sleep → ⊥) → (f ≡ D.Frame.Bingo → ⊥) → stack_good B s v (flat f ∷ []) ≡ false
  unfolding stack_good carries holds and
  last_other (D.Frame.Job x) q r = refl
  last_other (D.Frame.Exit x) q r = refl
  last_other D.Frame.Sleep q r = absurd (q refl)
  last_other D.Frame.Bingo q r = absurd (r refl)

-- A FRAME ON ANOTHER

module _ {operators symbols : List ℕ} {k : Store} {n : ℕ} where
  pub stands_job : (a j c a' : ℕ) (g : Frame) → a' ≡ a → {r : Bool} → ByPoint operators symbols k n (λ B s. carries B s a' (g ∷ [])) r →
      ByPoint operators symbols k n (λ B s. stands B s (Frame.job a j c) g) r
  stands_job a j c a' g e t = record { is = λ B s q. ap (λ (x : ℕ). carries B s x (g ∷ [])) (sym e) ∙ t.is B s q }

  pub stands_exit : (w i : ℕ) (g : Frame) {r : Bool} → ByTerm operators symbols (λ B s. holds B s (g ∷ [])) r →
      ByPoint operators symbols k n (λ B s. stands B s (Frame.exit w i) g) r
  stands_exit w i g t = record { is = λ B s q. t.is B s q.said }

  pub stands_other : (f : D.Frame) (g : Frame) → ((x : Job) → f ≡ D.Frame.Job x → ⊥) → ((x : Exit) → f ≡ D.Frame.Exit x → ⊥) → ByPoint operators symbols k n (λ B s. stands B s (flat f) g) false
  stands_other (D.Frame.Job x) g q r = absurd (q x refl)
  stands_other (D.Frame.Exit x) g q r = absurd (r x refl)
  stands_other D.Frame.Sleep g q r = record { is = λ B s p. refl }
  stands_other D.Frame.Bingo g q r = record { is = λ B s p. refl }
