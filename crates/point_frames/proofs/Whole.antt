-- Laws of the test as a whole: a job outside the term fails it; what is known once all are inside; the counted jobs; the units one by one. Assumes nothing.
use mathlib.Core.Bool.{Bool, true, false}
use mathlib.Core.List.{List, [], ◌∷◌}
use mathlib.Core.Path.{◌≡◌, refl, sym, ap, ap₂, subst, ◌∙◌}
use Prim.Native.Nat.{ℕ, zero, suc, ◌<◌}
use native.Mathlib.Decide.{ℕ_discrete, dec_lt}
use native.Mathlib.Omega.{arith}
use lib.Dec.{leb, ltb}
use lib.ListN.{length, get_or}
use borrow.Author.Tests.{ltb-true}
use Rattle.paper.specs.Book.{Book}
use Rattle.flat.specs.Machine.{Frame, FlatUnit, FlatState, unit}
use Rattle.flat.specs.Rules.{nth_frame, jobs_at, upto, stack}
use Rattle.flat.specs.Tested.{and, each_below, each_frame, job_good, count_good, room_good, frame_good, stack_good}
use Rattle.flat.proofs.Chosen.{frame_here, frame_past}
use Rattle.units.specs.Stacks.{height_in, Store, Below}
use Rattle.units.proofs.Units.{length_units}
use Rattle.term.specs.Present.{length_in}
use Rattle.point_frames.specs.Counting.{stack_in, frame_in, JobsTallied}
use Rattle.point_frames.specs.Promises.{Termed, Point, Inside, ByPoint}
use Rattle.point_frames.specs.Test.{one_job, stack_tested, frames_tested, inside}
use Rattle.point_frames.proofs.Stacks.{height_is, frame_missing, no_unit}
use Rattle.point_frames.proofs.Books.{length_said, units_said, stack_said}

-- TESTS TOGETHER

and_false : (b : Bool) → and b false ≡ false
unfolding and
and_false true = refl
and_false false = refl

both : (a b : Bool) → and a b ≡ true → (a ≡ true) × (b ≡ true)
unfolding and
both true b e = (refl, e)
both false b e = let z : ◌≡◌ {A = ℕ} 0 1 = cc in absurd (omega arith)

-- where one test fails another does
fails : (a b c d : Bool) → (a ≡ false → c ≡ false) → (b ≡ false → d ≡ false) → and a b ≡ false → and c d ≡ false
unfolding and
fails true b c d f g e = ap (and c) (g e) ∙ and_false c
fails false b c d f g e = ap (λ (x : Bool). and x d) (f refl)

frames_fail_too : (f g : ℕ → Frame → Bool) → ((i : ℕ) (x : Frame) → f i x ≡ false → g i x ≡ false) → (fs : List Frame) → each_frame f fs ≡ false →
    each_frame g fs ≡ false
unfolding each_frame
frames_fail_too f g h [] e = let z : ◌≡◌ {A = ℕ} 0 1 = cc in absurd (omega arith)
frames_fail_too f g h (x ∷ fs) e =
    fails (f (length fs) x) (each_frame f fs) (g (length fs) x) (each_frame g fs) (h (length fs) x) (frames_fail_too f g h fs) e

below_fail_too : (f g : ℕ → Bool) → ((v : ℕ) → f v ≡ false → g v ≡ false) → (n : ℕ) → each_below f n ≡ false → each_below g n ≡ false
unfolding each_below
below_fail_too f g h zero e = let z : ◌≡◌ {A = ℕ} 0 1 = cc in absurd (omega arith)
below_fail_too f g h (suc n) e = fails (f n) (each_below f n) (g n) (each_below g n) (h n) (below_fail_too f g h n) e

below_same : (f g : ℕ → Bool) (n : ℕ) → ((x : ℕ) → x < n → f x ≡ g x) → each_below f n ≡ each_below g n
unfolding each_below
below_same f g zero e = refl
below_same f g (suc n) e = ap₂ and (e n (omega arith)) (below_same f g n (λ x l. e x (omega arith)))

-- what holds of each
below_at : (f : ℕ → Bool) (n : ℕ) → each_below f n ≡ true → (v : ℕ) → v < n → f v ≡ true
unfolding each_below
below_at f zero e v l = absurd (omega arith)
below_at f (suc n) e v l =
    let p = both (f n) (each_below f n) e in
    elim (ℕ_discrete v n) [ yes d ↦ ap f d ∙ p.0 | no d ↦ below_at f n p.1 v (omega arith) ]

frames_at : (f : Frame → Bool) (fs : List Frame) → each_frame (λ i. f) fs ≡ true → (i : ℕ) → i < length fs → f (nth_frame i fs) ≡ true
unfolding each_frame
frames_at f [] e i l = absurd (omega arith)
frames_at f (x ∷ fs) e i l =
    let p = both (f x) (each_frame (λ i. f) fs) e in
    elim (ℕ_discrete i (length fs)) [
      | yes d ↦ ap f (frame_here i x fs d) ∙ p.0
      | no d ↦ ap f (frame_past i x fs d) ∙ frames_at f fs p.1 i (omega arith)
    ]

-- JOBS INSIDE THE TERM

below_of : (m : ℕ) (f : Frame) → inside m f ≡ true → Below m f
below_of m (Frame.job a k c) e = ltb-true a m e
below_of m (Frame.exit v i) e = tt
below_of m Frame.sleep e = tt
below_of m Frame.bingo e = tt

pub all_inside : {m : ℕ} (k : Store) (n : ℕ) → each_below (λ v. each_frame (λ i. inside m) (stack_in k n v)) n ≡ true → Inside m k n
all_inside {m} k n e = record { each = λ v i. go v i (dec_lt v n) }
  where
    go : (v i : ℕ) → Dec (v < n) → Below m (frame_in k n v i)
    go v i (no d) = subst (Below m) (sym (no_unit k n v (omega arith) i)) tt
    go v i (yes l) =
        elim (dec_lt i (height_in k.cells v)) [
          | yes h ↦ below_of m (frame_in k n v i) (frames_at (inside m) (stack_in k n v) (below_at _ n e v l) i (omega (arith, height_is k n v l)))
          | no h ↦ subst (Below m) (sym (frame_missing k n v l i (omega arith))) tt
        ]

job_fails : (B : Book) (s : FlatState) (a k c : ℕ) → ltb a (length s.symbols) ≡ false → job_good B s a k c ≡ false
unfolding job_good and
job_fails B s a zero c z = rw z
job_fails B s a (suc k) c z = rw z

frame_outside : (B : Book) (s : FlatState) (v m i : ℕ) (f : Frame) → m ≡ length s.symbols → inside m f ≡ false → frame_good B s v i f ≡ false
unfolding frame_good and
frame_outside B s v m i (Frame.job a k c) e z =
    ap (λ (b : Bool). and b (and (count_good B s v i a k c) (room_good B s v i a k))) (job_fails B s a k c (ap (ltb a) (sym e) ∙ z))
frame_outside B s v m i (Frame.exit w j) e z = let y : ◌≡◌ {A = ℕ} 0 1 = cc in absurd (omega arith)
frame_outside B s v m i Frame.sleep e z = let y : ◌≡◌ {A = ℕ} 0 1 = cc in absurd (omega arith)
frame_outside B s v m i Frame.bingo e z = let y : ◌≡◌ {A = ℕ} 0 1 = cc in absurd (omega arith)

module _ {operators symbols : List ℕ} {k : Store} {n : ℕ} (t : Termed operators symbols) where
  pub job_outside : (m : ℕ) → m ≡ length_in symbols → each_below (λ v. each_frame (λ i. inside m) (stack_in k n v)) n ≡ false →
      ByPoint operators symbols k n frames_tested false
  unfolding frames_tested
  job_outside m d e = record {
    is = λ B s q.
        let u = below_fail_too (λ v. each_frame (λ i. inside m) (stack_in k n v)) (stack_tested B s)
        (λ v z.
        ap (and (stack_good B s v (stack s v)))
        (ap (each_frame (frame_good B s v)) (stack_said q v)
        ∙ frames_fail_too (λ i. inside m) (frame_good B s v) (λ i f y. frame_outside B s v m i f (d ∙ sym (length_said t q.said)) y) (stack_in k n v) z)
        ∙ and_false (stack_good B s v (stack s v)))
        n e in
        ap (and (each_below (one_job s) (length s.symbols))) (ap (each_below (stack_tested B s)) (units_said q) ∙ u)
        ∙ and_false (each_below (one_job s) (length s.symbols));
  }

-- AT MOST ONE JOB AT AN OFFSET

module _ {operators symbols : List ℕ} {k : Store} {n : ℕ} (t : Termed operators symbols) {jobs : List ℕ} (a : JobsTallied k n jobs) (m : ℕ)
    (d : m ≡ length_in symbols) {b : Bool} (e : each_below (λ x. leb (get_or jobs x 0) 1) m ≡ b) where
  distinct_is : {B : Book} {s : FlatState} → Point operators symbols k n B s → each_below (one_job s) (length s.symbols) ≡ b
  distinct_is {B} {s} q =
      ap (each_below (one_job s)) (length_said t q.said ∙ sym d)
      ∙ below_same (one_job s) (λ x. leb (get_or jobs x 0) 1) m (λ x l. ap (λ (y : ℕ). leb y 1) (many x l)) ∙ e
    where
      many : (x : ℕ) → x < m → upto (λ v. jobs_at x (stack s v)) (length s.units) ≡ get_or jobs x 0
      many x l =
          ap (λ (us : List FlatUnit). upto (λ v. jobs_at x (unit us v).stack) (length us)) q.units_are
          ∙ ap (upto (λ v. jobs_at x (stack_in k n v))) (length_units k.work k.cells 0 n)
          ∙ sym (a.is x (omega (arith, l, d, t.sized.most)))

  pub job_twice : b ≡ false → ByPoint operators symbols k n frames_tested false
  unfolding frames_tested and
  job_twice y = record { is = λ B s q. ap (λ (x : Bool). and x (each_below (stack_tested B s) (length s.units))) (distinct_is q ∙ y) }

  pub jobs_once : b ≡ true → {c : Bool} → ByPoint operators symbols k n (λ B s. each_below (stack_tested B s) n) c →
      ByPoint operators symbols k n frames_tested c
  unfolding frames_tested and
  jobs_once y u = record {
    is = λ B s q.
        ap (λ (x : Bool). and x (each_below (stack_tested B s) (length s.units))) (distinct_is q ∙ y)
        ∙ ap (each_below (stack_tested B s)) (units_said q) ∙ u.is B s q;
  }

-- A UNIT

module _ {operators symbols : List ℕ} {k : Store} {n : ℕ} (v : ℕ) {b : Bool} (t : ByPoint operators symbols k n (λ B s. stack_good B s v (stack_in k n v)) b) where
  pub unit_no_stack : b ≡ false → ByPoint operators symbols k n (λ B s. stack_tested B s v) false
  unfolding and
  unit_no_stack z = record {
    is = λ B s q.
        ap (λ (x : Bool). and x (each_frame (frame_good B s v) (stack s v))) (ap (stack_good B s v) (stack_said q v) ∙ t.is B s q ∙ z);
  }

  pub unit_frames : b ≡ true → {c : Bool} → ByPoint operators symbols k n (λ B s. each_frame (frame_good B s v) (stack_in k n v)) c →
      ByPoint operators symbols k n (λ B s. stack_tested B s v) c
  unfolding and
  unit_frames z f = record {
    is = λ B s q.
        ap₂ and (ap (stack_good B s v) (stack_said q v) ∙ t.is B s q ∙ z) (ap (each_frame (frame_good B s v)) (stack_said q v) ∙ f.is B s q);
  }
