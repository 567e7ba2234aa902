-- Laws of the tests of a frame by itself, by what the code has read: a way through a function, and what the test says of every book and state. Assumes nothing.
use mathlib.Core.Bool.{Bool, true, false, not}
use mathlib.Core.List.{List, [], ◌∷◌}
use mathlib.Core.Logic.{inl, inr}
use mathlib.Core.Path.{◌≡◌, refl, sym, ap, ap₂, subst, ◌∙◌}
use Prim.Native.Nat.{ℕ, zero, suc, ◌+◌, ◌-◌, ◌<◌}
use native.Mathlib.Omega.{arith}
use lib.Dec.{eqb, leb, ltb}
use lib.ListN.{length, get_or, drop}
use Rattle.paper.specs.Book.{Book, steps}
use Rattle.paper.specs.Strategy.{Step}
use Rattle.paper.proofs.Tests.{leb_cases, ltb_cases, eqb_true, eqb_false, ltb_true}
use Rattle.flat.specs.Machine.{Frame, FlatState, next_count}
use Rattle.flat.specs.Rules.{nth_frame, steps_left, forks_left, jobs, stack}
use Rattle.flat.specs.Meets.{named, frame}
use Rattle.flat.specs.Tested.{and, or, is_some, in_group, job_good, exit_good, awaited, count_good, room_good, frame_good}
use Rattle.flat.proofs.Chosen.{frame_none}
use Rattle.symbol.specs.Record.{operator}
use Rattle.tables.specs.Layout.{arity_in, steps_in}
use Rattle.term.specs.Present.{length_in}
use Rattle.units.specs.Frames.{flat}
use Rattle.units.specs.Stacks.{Store}
use Rattle.units.specs.declared.frames.Exit.{Exit}
use Rattle.units.specs.declared.frames.Frame as D
use Rattle.units.specs.declared.frames.Job.{Job}
use Rattle.point_frames.specs.declared.steps.Rest.{Rest}
use Rattle.point_frames.specs.Steps.{Told}
use Rattle.point_frames.specs.Counting.{frame_in, all_exits}
use Rattle.point_frames.specs.Promises.{Termed, Point, Left, JobTested, CountTested, RoomTested, ByPoint}
use Rattle.point_frames.specs.Test.{inside}
use Rattle.point_frames.proofs.Books.{steps_said, arity_said, length_said, frame_said, awaited_said}

-- a frame that is no job
abbrev pub NotJob : Frame → Type 0
NotJob (Frame.job a k c) = ⊥
NotJob (Frame.exit v i) = Unit {0}
NotJob Frame.sleep = Unit {0}
NotJob Frame.bingo = Unit {0}

pub not_job : (f : D.Frame) → ((x : Job) → f ≡ D.Frame.Job x → ⊥) → NotJob (flat f)
not_job (D.Frame.Job x) q = absurd (q x refl)
not_job (D.Frame.Exit x) q = tt
not_job D.Frame.Sleep q = tt
not_job D.Frame.Bingo q = tt

pub inside_other : (n : ℕ) (f : Frame) → NotJob f → inside n f ≡ true
inside_other n (Frame.job a k c) z = absurd z
inside_other n (Frame.exit v i) z = refl
inside_other n Frame.sleep z = refl
inside_other n Frame.bingo z = refl

pub jobs_other : (f : Frame) → NotJob f → jobs (f ∷ []) ≡ 0
unfolding jobs
jobs_other (Frame.job a k c) z = absurd z
jobs_other (Frame.exit v i) z = refl
jobs_other Frame.sleep z = refl
jobs_other Frame.bingo z = refl

pub jobs_one : (a k c : ℕ) → jobs (Frame.job a k c ∷ []) ≡ 1
unfolding jobs
jobs_one a k c = refl

-- THE STEPS LEFT

module _ {operators symbols : List ℕ} {r : Rest} where
  pub left_other : (f : Frame) → NotJob f → Told [] r → Left operators symbols f r
  unfolding steps_left
  left_other (Frame.job a k c) z t = absurd z
  left_other (Frame.exit v i) z t = record { is = λ B s q. t }
  left_other Frame.sleep z t = record { is = λ B s q. t }
  left_other Frame.bingo z t = record { is = λ B s q. t }

  pub left_visit : (a k c : ℕ) → k ≡ 0 → Told [] r → Left operators symbols (Frame.job a k c) r
  unfolding steps_left
  left_visit a k c e t = rw e (record { is = λ B s q. t })

  pub left_steps : Termed operators symbols → (a k c o j : ℕ) → a < length_in symbols → (k ≡ 0 → ⊥) → o ≡ operator (get_or symbols a 0) → j ≡ k - 1 →
      Told (drop j (steps_in operators o)) r → Left operators symbols (Frame.job a k c) r
  unfolding steps_left
  left_steps w a zero c o j l n e d t = absurd (n refl)
  left_steps w a (suc k) c o j l n e d t = record {
    is = λ B s q.
        let f : j ≡ k = omega arith in
        subst (λ (ss : List Step). Told ss r) (ap₂ (λ (i : ℕ) (ss : List Step). drop i ss) f (steps_said w a o l e q)) t;
  }

-- A JOB

and_true : (b : Bool) → and b true ≡ b
unfolding and
and_true true = refl
and_true false = refl

-- what is equal is at most that
equal_most : (c n : ℕ) → and (leb c n) (eqb c n) ≡ eqb c n
unfolding and
equal_most c n =
    elim (leb_cases c n) [
      | inl p ↦ ap (λ (b : Bool). and b (eqb c n)) p.0
      | inr p ↦ ap (λ (b : Bool). and b (eqb c n)) p.0 ∙ sym (eqb_false c n (λ e. let z = p.1 in omega (arith, z, e)))
    ]

module _ (a c : ℕ) {r : Rest} where
  pub job_visit : (k : ℕ) → k ≡ 0 → JobTested a k c r (eqb c 0)
  unfolding job_good and
  job_visit k e = rw e (record { is = λ B s t l. ap (λ (b : Bool). and b (eqb c 0)) (ltb_true a (length s.symbols) l) })

  -- by the steps left, three facts of which are given
  visited : (k : ℕ) → (k ≡ 0 → ⊥) → (x y b : Bool) → r.some ≡ x → r.group ≡ y → and x (and (leb c r.count) (or y (eqb c r.count))) ≡ b →
      JobTested a k c r b
  unfolding job_good steps_left and
  visited zero n x y b e d z = absurd (n refl)
  visited (suc k) n x y b e d z = record {
    is = λ B s t l.
        ap (λ (b : Bool). and b (and (is_some (left B s)) (and (leb c (next_count (left B s))) (or (in_group (left B s)) (eqb c (next_count (left B s)))))))
        (ltb_true a (length s.symbols) l)
        ∙ ap₂ (λ (p q : Bool). and p (and (leb c (next_count (left B s))) (or q (eqb c (next_count (left B s)))))) (sym t.some ∙ e) (sym t.group ∙ d)
        ∙ ap (λ (m : ℕ). and x (and (leb c m) (or y (eqb c m)))) (sym t.count)
        ∙ z;
  }
    where
      left : Book → FlatState → List Step
      left B s = drop k (steps B (get_or s.symbols a 0))

  pub job_none : (k : ℕ) → (k ≡ 0 → ⊥) → r.some ≡ false → JobTested a k c r false
  unfolding and
  job_none k n e = visited k n false r.group false e refl refl

  pub job_group : (k : ℕ) → (k ≡ 0 → ⊥) → r.some ≡ true → r.group ≡ true → JobTested a k c r (leb c r.count)
  unfolding and or
  job_group k n e d = visited k n true true (leb c r.count) e d (and_true (leb c r.count))

  pub job_whole : (k : ℕ) → (k ≡ 0 → ⊥) → r.some ≡ true → r.group ≡ false → JobTested a k c r (eqb c r.count)
  unfolding and or
  job_whole k n e d = visited k n true false (eqb c r.count) e d (equal_most c r.count)

-- ITS COUNT

module _ (a k c : ℕ) {r : Rest} where
  pub count_free : (n : ℕ) → r.group ≡ false → CountTested a k c r n true
  unfolding count_good or
  count_free n e = record {
    is = λ B s v i t d.
        ap (λ (b : Bool). or (not b) (eqb c (forks_left (steps_left B s.symbols (Frame.job a k c)) + awaited B s v i))) (sym t.group ∙ e);
  }

  pub count_group : (n c' f' : ℕ) → r.group ≡ true → c' ≡ c → f' ≡ r.forks → CountTested a k c r n (eqb c' (f' + n))
  unfolding count_good or
  count_group n c' f' e g h = record {
    is = λ B s v i t d.
        ap (λ (b : Bool). or (not b) (eqb c (forks_left (steps_left B s.symbols (Frame.job a k c)) + awaited B s v i))) (sym t.group ∙ e)
        ∙ ap₂ (λ (x y : ℕ). eqb x y) (sym g) (ap₂ (λ (x y : ℕ). x + y) (sym t.forks ∙ sym h) (sym d));
  }

-- ITS ROOM

module _ (a c : ℕ) {r : Rest} {operators symbols : List ℕ} (m : ℕ) where
  pub room_visit : (k : ℕ) → k ≡ 0 → RoomTested a k c r operators symbols m true
  unfolding room_good
  room_visit k e = rw e (record { is = λ B s v i q t d. refl })

  pub room_steps : Termed operators symbols → (k o w y : ℕ) → (k ≡ 0 → ⊥) → a < length_in symbols → o ≡ operator (get_or symbols a 0) → w ≡ r.named →
      y ≡ arity_in operators o → RoomTested a k c r operators symbols m (leb (w + m) y)
  unfolding room_good steps_left
  room_steps p zero o w y n l e g h = absurd (n refl)
  room_steps p (suc k) o w y n l e g h = record {
    is = λ B s v i q t d.
        let x : named (drop k (steps B (get_or s.symbols a 0))) + jobs (frame s v (suc i) ∷ []) + awaited B s v i ≡ w + m = omega (arith, g, d, t.named) in
        ap₂ leb x (sym (h ∙ arity_said p a o l e q));
  }

-- AN EXIT

-- a frame in a group stands inside the stack
there : (B : Book) (xs : List ℕ) (i : ℕ) (fs : List Frame) →
    and (ltb i (length fs)) (in_group (steps_left B xs (nth_frame i fs))) ≡ in_group (steps_left B xs (nth_frame i fs))
unfolding and in_group steps_left
there B xs i fs =
    elim (ltb_cases i (length fs)) [
      | inl p ↦ ap (λ (b : Bool). and b (in_group (steps_left B xs (nth_frame i fs)))) p.0
      | inr p ↦
          ap (λ (b : Bool). and b (in_group (steps_left B xs (nth_frame i fs)))) p.0
          ∙ sym (ap (λ (f : Frame). in_group (steps_left B xs f)) (frame_none i fs p.1))
    ]

module _ {operators symbols : List ℕ} {k : Store} {n : ℕ} (v w i w' : ℕ) (ew : w' ≡ w) where
  pub exit_own : w' ≡ v → ByPoint operators symbols k n (λ B s. exit_good B s v w i) false
  unfolding exit_good and
  exit_own e = record {
    is = λ B s q.
        ap (λ (b : Bool). and (not b) (and (ltb i (length (stack s w))) (in_group (steps_left B s.symbols (frame s w i))))) (eqb_true w v (sym ew ∙ e));
  }

  pub exit_other : (w' ≡ v → ⊥) → (i' : ℕ) → i' ≡ i → (f : Frame) → frame_in k n w' i' ≡ f → {r : Rest} → Left operators symbols f r →
      ByPoint operators symbols k n (λ B s. exit_good B s v w i) r.group
  unfolding exit_good and
  exit_other d i' ei f e {r} t = record {
    is = λ B s q.
        let g : frame s w i ≡ f = frame_said q w i ∙ ap₂ (λ (x y : ℕ). frame_in k n x y) (sym ew) (sym ei) ∙ e in
        ap (λ (b : Bool). and (not b) (and (ltb i (length (stack s w))) (in_group (steps_left B s.symbols (frame s w i)))))
        (eqb_false w v (λ z. d (ew ∙ z)))
        ∙ there B s.symbols i (stack s w)
        ∙ ap (λ (h : Frame). in_group (steps_left B s.symbols h)) g
        ∙ sym (t.is B s q.said).group;
  }

-- THE TESTS OF A JOB TOGETHER: b and d are what the first two have said

module _ {operators symbols : List ℕ} {k : Store} {n : ℕ} (p : Termed operators symbols) (v i a j c : ℕ) (l : a < length_in symbols) {r : Rest}
    (t : Left operators symbols (Frame.job a j c) r) {b : Bool} (h : JobTested a j c r b) where
  job_is : (B : Book) (s : FlatState) → Point operators symbols k n B s → job_good B s a j c ≡ b
  job_is B s q = h.is B s (t.is B s q.said) (omega (arith, length_said p q.said, l))

  pub frame_no_job : b ≡ false → ByPoint operators symbols k n (λ B s. frame_good B s v i (Frame.job a j c)) false
  unfolding frame_good and
  frame_no_job z = record {
    is = λ B s q. ap (λ (b : Bool). and b (and (count_good B s v i a j c) (room_good B s v i a j))) (job_is B s q ∙ z);
  }

  module _ (m : ℕ) (e : m ≡ all_exits k n v i) {d : Bool} (g : CountTested a j c r m d) (z : b ≡ true) where
    count_is : (B : Book) (s : FlatState) → Point operators symbols k n B s → count_good B s v i a j c ≡ d
    count_is B s q = g.is B s v i (t.is B s q.said) (e ∙ sym (awaited_said q v i))

    pub frame_no_count : d ≡ false → ByPoint operators symbols k n (λ B s. frame_good B s v i (Frame.job a j c)) false
    unfolding frame_good and
    frame_no_count y = record {
      is = λ B s q. ap₂ (λ (x y : Bool). and x (and y (room_good B s v i a j))) (job_is B s q ∙ z) (count_is B s q ∙ y);
    }

    pub frame_room : d ≡ true → (x : ℕ) → x ≡ jobs (frame_in k n v (i + 1) ∷ []) → {f : Bool} → RoomTested a j c r operators symbols (x + m) f →
        ByPoint operators symbols k n (λ B s. frame_good B s v i (Frame.job a j c)) f
    unfolding frame_good and
    frame_room y x u f = record {
      is = λ B s q.
          let w : x + m ≡ jobs (frame s v (suc i) ∷ []) + awaited B s v i = ap₂ (λ (x y : ℕ). x + y) (u ∙ above q) (e ∙ sym (awaited_said q v i)) in
          ap₂ (λ (x y : Bool). and x (and y (room_good B s v i a j))) (job_is B s q ∙ z) (count_is B s q ∙ y)
          ∙ f.is B s v i q.said (t.is B s q.said) w;
    }
      where
        above : {B : Book} {s : FlatState} → Point operators symbols k n B s → jobs (frame_in k n v (i + 1) ∷ []) ≡ jobs (frame s v (suc i) ∷ [])
        above q =
            let e : i + 1 ≡ suc i = omega arith in
            ap (λ (z : ℕ). jobs (frame_in k n v z ∷ [])) e ∙ ap (λ (f : Frame). jobs (f ∷ [])) (sym (frame_said q v (suc i)))

-- A FRAME THAT IS READ

pub by_frame : {operators symbols : List ℕ} {k : Store} {n : ℕ} {b : Bool} (test : Book → FlatState → Frame → Bool) {f g : Frame} → f ≡ g →
    ByPoint operators symbols k n (λ B s. test B s g) b → ByPoint operators symbols k n (λ B s. test B s f) b
by_frame test e t = record { is = λ B s q. ap (test B s) e ∙ t.is B s q }

module _ {operators symbols : List ℕ} {k : Store} {n : ℕ} (v i : ℕ) {f : Frame} where
  pub good_exit : (w j : ℕ) → f ≡ Frame.exit w j → {b : Bool} → ByPoint operators symbols k n (λ B s. exit_good B s v w j) b →
      ByPoint operators symbols k n (λ B s. frame_good B s v i f) b
  unfolding frame_good
  good_exit w j e t = by_frame (λ B s f. frame_good B s v i f) e (record { is = λ B s q. t.is B s q })

  pub good_other : (g : D.Frame) → f ≡ flat g → ((x : Job) → g ≡ D.Frame.Job x → ⊥) → ((x : Exit) → g ≡ D.Frame.Exit x → ⊥) → ByPoint operators symbols k n (λ B s. frame_good B s v i f) true
  unfolding frame_good
  good_other (D.Frame.Job x) e q r = absurd (q x refl)
  good_other (D.Frame.Exit x) e q r = absurd (r x refl)
  good_other D.Frame.Sleep e q r = by_frame (λ B s f. frame_good B s v i f) e (record { is = λ B s p. refl })
  good_other D.Frame.Bingo e q r = by_frame (λ B s f. frame_good B s v i f) e (record { is = λ B s p. refl })
