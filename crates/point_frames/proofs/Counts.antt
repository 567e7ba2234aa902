-- Laws of counting: a store counts a job or an EXIT more; what is counted and what is left to count are together what there is; there are few enough for 16 bits.
-- Assumes nothing.
use mathlib.Core.Bool.{Bool, true, false}
use mathlib.Core.List.{List, [], ◌∷◌}
use mathlib.Core.Path.{◌≡◌, refl, sym, ap, ap₂, ◌∙◌}
use Prim.Native.Nat.{ℕ, zero, suc, ◌+◌, ◌*◌, ◌≤◌, ◌<◌}
use native.Mathlib.Decide.{ℕ_discrete}
use native.Mathlib.Numerals.{add-one}
use native.Mathlib.Nat.{add-zero}
use native.Mathlib.Omega.{arith}
use lib.Dec.{eqb}
use lib.ListN.{length, get_or, set, replicate, length-set, length-replicate}
use lib.Seq.{get_or-set_same, get_or-set_other}
use borrow.Author.Tests.{eq-eqb, ne_eqb}
use Rattle.flat.specs.Machine.{Frame}
use Rattle.flat.specs.Rules.{jobs_at, exits_to, same_pair, upto}
use Rattle.units.specs.Frames.{flat}
use Rattle.units.specs.Stacks.{height, base, stack_of, height_in, Store}
use Rattle.units.specs.declared.frames.Exit.{Exit}
use Rattle.units.specs.declared.frames.Frame as D
use Rattle.units.specs.declared.frames.Job.{Job}
use Rattle.point_frames.specs.Counting.{Kept, Heights, stack_in, frame_in, place, jobs_of, exits_of, all_jobs, all_exits, JobsRoom, JobsAdded, ExitsRoom, ExitsAdded, JobsTallied, ExitsTallied}
use Rattle.point_frames.proofs.Stacks.{heights, height_is, lowest, stack_none}

-- ONE FRAME MORE

pub jobs_cons : (x : ℕ) (f : Frame) (fs : List Frame) → jobs_at x (f ∷ fs) ≡ jobs_at x (f ∷ []) + jobs_at x fs
unfolding jobs_at
jobs_cons x (Frame.job a k c) fs = go (eqb a x)
  where
    go : (b : Bool) → elim b [ true ↦ suc (jobs_at x fs) | false ↦ jobs_at x fs ] ≡ elim b [ true ↦ suc (jobs_at x []) | false ↦ jobs_at x [] ] + jobs_at x fs
    go true = omega arith
    go false = omega arith
jobs_cons x (Frame.exit v i) fs = omega arith
jobs_cons x Frame.sleep fs = omega arith
jobs_cons x Frame.bingo fs = omega arith

pub exits_cons : (v i : ℕ) (f : Frame) (fs : List Frame) → exits_to v i (f ∷ fs) ≡ exits_to v i (f ∷ []) + exits_to v i fs
unfolding exits_to
exits_cons v i (Frame.job a k c) fs = omega arith
exits_cons v i (Frame.exit w j) fs = omega arith
exits_cons v i Frame.sleep fs = omega arith
exits_cons v i Frame.bingo fs = omega arith

-- a job at offset x, and elsewhere
job_here : (a k c x : ℕ) → x ≡ a → jobs_at x (Frame.job a k c ∷ []) ≡ 1
unfolding jobs_at
job_here a k c x e = rw (eq-eqb a x (sym e), jobs_at)

job_elsewhere : (a k c x : ℕ) → (x ≡ a → ⊥) → jobs_at x (Frame.job a k c ∷ []) ≡ 0
unfolding jobs_at
job_elsewhere a k c x d = rw (ne_eqb a x (λ e. d (sym e)), jobs_at)

module _ (v i w j : ℕ) where
  pair_here : v ≡ w → i ≡ j → exits_to v i (Frame.exit w j ∷ []) ≡ 1
  unfolding exits_to
  pair_here e d = rw (eq-eqb v w e, same_pair, eq-eqb i j d)

  pair_unit : (v ≡ w → ⊥) → exits_to v i (Frame.exit w j ∷ []) ≡ 0
  unfolding exits_to
  pair_unit d = rw (ne_eqb v w d, same_pair)

  pair_index : (i ≡ j → ⊥) → exits_to v i (Frame.exit w j ∷ []) ≡ 0
  unfolding exits_to
  pair_index d = elim (ℕ_discrete v w) [ yes e ↦ rw (eq-eqb v w e, same_pair, ne_eqb i j d) | no e ↦ pair_unit e ]

one_job : (a k c x : ℕ) → jobs_at x (Frame.job a k c ∷ []) ≤ 1
one_job a k c x = elim (ℕ_discrete x a) [ yes e ↦ omega (arith, job_here a k c x e) | no d ↦ omega (arith, job_elsewhere a k c x d) ]

one_exit : (v i w j : ℕ) → exits_to v i (Frame.exit w j ∷ []) ≤ 1
one_exit v i w j =
    elim (ℕ_discrete v w) [
      | yes e ↦ elim (ℕ_discrete i j) [ yes d ↦ omega (arith, pair_here v i w j e d) | no d ↦ omega (arith, pair_index v i w j d) ]
      | no e ↦ omega (arith, pair_unit v i w j e)
    ]

-- THE STORES

pub job_room : {jobs : List ℕ} (a k c : ℕ) → a < 1024 → JobsRoom (jobs_of (Frame.job a k c ∷ [])) jobs → get_or jobs a 0 + 1 < 65536
job_room {jobs} a k c l p = omega (arith, p.room a l, job_here a k c a refl)

pub job_stored : {jobs jobs' : List ℕ} {a : ℕ} (k c : ℕ) → length jobs ≡ 1024 → a < 1024 → jobs' ≡ set jobs a (get_or jobs a 0 + 1) →
    JobsAdded (jobs_of (Frame.job a k c ∷ [])) jobs jobs'
job_stored {jobs} {jobs'} {a} k c long l e = record {
  long = ap length e ∙ length-set jobs a (get_or jobs a 0 + 1) ∙ long;
  is = λ x m.
      elim (ℕ_discrete x a) [
        | yes d ↦
            ap (λ (z : List ℕ). get_or z x 0) e ∙ ap (λ (y : ℕ). get_or (set jobs a (get_or jobs a 0 + 1)) y 0) d
            ∙ get_or-set_same jobs a (get_or jobs a 0 + 1) 0 (omega (arith, l, long))
            ∙ ap₂ (λ (y z : ℕ). get_or jobs y 0 + z) (sym d) (sym (job_here a k c x d))
        | no d ↦
            ap (λ (z : List ℕ). get_or z x 0) e ∙ get_or-set_other jobs a x (get_or jobs a 0 + 1) 0 d
            ∙ sym (ap (λ (z : ℕ). get_or jobs x 0 + z) (job_elsewhere a k c x d) ∙ add-zero (get_or jobs x 0))
      ];
}

module _ {cells : List ℕ} {n : ℕ} (p : Heights cells n) (v i : ℕ) where
  -- where the counter stands
  exit_place : v < n → i < height_in cells v → place v i < 8208
  exit_place l h = omega (arith, l, h, p.few, p.most v)

  room_here : {exits : List ℕ} → ExitsRoom cells n (exits_of (Frame.exit v i ∷ [])) exits → v < n → i < height_in cells v → get_or exits (place v i) 0 + 1 < 65536
  room_here q l h = omega (arith, q.room v i l h, pair_here v i v i refl refl)

  apart : (w j : ℕ) → i < height_in cells v → j < height_in cells w → place w j ≡ place v i → (w ≡ v) × (j ≡ i)
  apart w j h g e = let a = p.most v in let b = p.most w in (omega (arith, e, h, g, a, b), omega (arith, e, h, g, a, b))

  stored_here : {exits exits' : List ℕ} → length exits ≡ 8208 → v < n → i < height_in cells v → exits' ≡ set exits (place v i) (get_or exits (place v i) 0 + 1) →
      ExitsAdded cells n (exits_of (Frame.exit v i ∷ [])) exits exits'
  stored_here {exits} {exits'} long l h e = record {
    long = ap length e ∙ length-set exits (place v i) (get_or exits (place v i) 0 + 1) ∙ long;
    is = λ w j m g.
        elim (ℕ_discrete (place w j) (place v i)) [
          | yes d ↦
              let (a, b) = apart w j h g d in
              ap (λ (z : List ℕ). get_or z (place w j) 0) e ∙ ap (λ (y : ℕ). get_or (set exits (place v i) (get_or exits (place v i) 0 + 1)) y 0) d
              ∙ get_or-set_same exits (place v i) (get_or exits (place v i) 0 + 1) 0 (omega (arith, exit_place l h, long))
              ∙ ap₂ (λ (y z : ℕ). get_or exits y 0 + z) (sym d) (sym (pair_here w j v i a b))
          | no d ↦
              ap (λ (z : List ℕ). get_or z (place w j) 0) e ∙ get_or-set_other exits (place v i) (place w j) (get_or exits (place v i) 0 + 1) 0 d
              ∙ sym (ap (λ (z : ℕ). get_or exits (place w j) 0 + z) (other w j d) ∙ add-zero (get_or exits (place w j) 0))
        ];
  }
    where
      other : (w j : ℕ) → (place w j ≡ place v i → ⊥) → exits_to w j (Frame.exit v i ∷ []) ≡ 0
      other w j d =
          elim (ℕ_discrete w v) [
            | yes a ↦ pair_index w j v i (λ b. d (ap₂ place a b))
            | no a ↦ pair_unit w j v i a
          ]

  -- it names no frame: nothing is counted
  not_here : {exits : List ℕ} → (v < n → i < height_in cells v → ⊥) → length exits ≡ 8208 → ExitsAdded cells n (exits_of (Frame.exit v i ∷ [])) exits exits
  not_here {exits} d long = record {
    long = long;
    is = λ w j m g.
        sym (ap (λ (z : ℕ). get_or exits (place w j) 0 + z) (none w j m g) ∙ add-zero (get_or exits (place w j) 0));
  }
    where
      none : (w j : ℕ) → w < n → j < height_in cells w → exits_to w j (Frame.exit v i ∷ []) ≡ 0
      none w j m g =
          elim (ℕ_discrete w v) [
            | yes a ↦ elim (ℕ_discrete j i) [ yes b ↦ absurd (d (rw a at m) (rw (a, b) at g)) | no b ↦ pair_index w j v i b ]
            | no a ↦ pair_unit w j v i a
          ]

-- the same by the numbers that the code reads: the unit, the index, the unit's height
module _ {cells : List ℕ} {n : ℕ} (p : Heights cells n) {v i v' i' : ℕ} (ev : v' ≡ v) (ei : i' ≡ i) (h : ℕ) where
  pub exit_room : {exits : List ℕ} → ExitsRoom cells n (exits_of (Frame.exit v i ∷ [])) exits → v' < n → h ≡ height_in cells v' → i' < h →
      get_or exits (place v' i') 0 + 1 < 65536
  exit_room q l e m = rw (ev, ei) (room_here p v i q (rw ev at l) (rw (e, ev, ei) at m))

  pub exit_stored : {exits : List ℕ} → length exits ≡ 8208 → v' < n → h ≡ height_in cells v' → i' < h →
      ExitsAdded cells n (exits_of (Frame.exit v i ∷ [])) exits (set exits (place v' i') (get_or exits (place v' i') 0 + 1))
  exit_stored long l e m = rw (ev, ei) (stored_here p v i long (rw ev at l) (rw (e, ev, ei) at m) refl)

  pub exit_no_frame : {exits : List ℕ} → length exits ≡ 8208 → h ≡ height_in cells v' → h ≤ i' → ExitsAdded cells n (exits_of (Frame.exit v i ∷ [])) exits exits
  exit_no_frame long e m = not_here p v i (λ l g. let z = rw (e, ev, ei) at m in omega (arith, z, g)) long

  pub exit_no_unit : {exits : List ℕ} → length exits ≡ 8208 → n ≤ v' → ExitsAdded cells n (exits_of (Frame.exit v i ∷ [])) exits exits
  exit_no_unit long m = not_here p v i (λ l g. omega (arith, ev, m, l)) long

-- NOTHING TO COUNT

pub exit_no_job : (v i x : ℕ) → jobs_at x (Frame.exit v i ∷ []) ≡ 0
unfolding jobs_at
exit_no_job v i x = refl

pub job_no_exit : (a k c v i : ℕ) → exits_to v i (Frame.job a k c ∷ []) ≡ 0
unfolding exits_to
job_no_exit a k c v i = refl

pub neither : (f : D.Frame) → ((x : Job) → f ≡ D.Frame.Job x → ⊥) → ((x : Exit) → f ≡ D.Frame.Exit x → ⊥) → ((x : ℕ) → jobs_at x (flat f ∷ []) ≡ 0) × ((v i : ℕ) → exits_to v i (flat f ∷ []) ≡ 0)
unfolding jobs_at exits_to
neither (D.Frame.Job x) q r = absurd (q x refl)
neither (D.Frame.Exit x) q r = absurd (r x refl)
neither D.Frame.Sleep q r = (λ x. refl, λ v i. refl)
neither D.Frame.Bingo q r = (λ x. refl, λ v i. refl)

pub jobs_same : {f : ℕ → ℕ} {jobs : List ℕ} → ((x : ℕ) → f x ≡ 0) → length jobs ≡ 1024 → JobsAdded f jobs jobs
jobs_same {f} {jobs} z long = record { long = long; is = λ x m. sym (ap (λ (y : ℕ). get_or jobs x 0 + y) (z x) ∙ add-zero (get_or jobs x 0)) }

pub exits_same : {cells exits : List ℕ} {n : ℕ} {g : ℕ → ℕ → ℕ} → ((v i : ℕ) → g v i ≡ 0) → length exits ≡ 8208 → ExitsAdded cells n g exits exits
exits_same {exits = exits} z long = record {
  long = long;
  is = λ v i m h. sym (ap (λ (y : ℕ). get_or exits (place v i) 0 + y) (z v i) ∙ add-zero (get_or exits (place v i) 0));
}

-- LEFT TO COUNT: of f jobs in all there are f' left; of g EXITs there are g' left

pub record JobsLeft (f f' : ℕ → ℕ) (jobs jobs' : List ℕ) : Type 0 where
  pub long : length jobs' ≡ 1024
  pub is : (x : ℕ) → x < 1024 → get_or jobs' x 0 + f' x ≡ get_or jobs x 0 + f x

pub record ExitsLeft (cells : List ℕ) (n : ℕ) (g g' : ℕ → ℕ → ℕ) (exits exits' : List ℕ) : Type 0 where
  pub long : length exits' ≡ 8208
  pub is : (v i : ℕ) → v < n → i < height_in cells v → get_or exits' (place v i) 0 + g' v i ≡ get_or exits (place v i) 0 + g v i

module _ {f f' : ℕ → ℕ} {jobs : List ℕ} where
  pub jobs_first : JobsRoom f jobs → ((x : ℕ) → f x ≡ f' x) → JobsLeft f f' jobs jobs
  jobs_first r e = record { long = r.long; is = λ x m. ap (λ (y : ℕ). get_or jobs x 0 + y) (sym (e x)) }

  -- some are counted more: those that are left are as many less
  module _ {jobs' : List ℕ} (p : JobsLeft f f' jobs jobs') (a f'' : ℕ → ℕ) (e : (x : ℕ) → f' x ≡ a x + f'' x) where
    pub jobs_fit : JobsRoom f jobs → JobsRoom a jobs'
    jobs_fit r = record { long = p.long; room = λ x m. omega (arith, p.is x m, e x, r.room x m) }

    pub jobs_more : {jobs'' : List ℕ} → JobsAdded a jobs' jobs'' → JobsLeft f f'' jobs jobs''
    jobs_more {jobs''} q = record { long = q.long; is = λ x m. omega (arith, p.is x m, e x, q.is x m) }

  pub jobs_all : {jobs' : List ℕ} → JobsLeft f f' jobs jobs' → ((x : ℕ) → f' x ≡ 0) → JobsAdded f jobs jobs'
  jobs_all p z = record { long = p.long; is = λ x m. omega (arith, p.is x m, z x) }

module _ {cells : List ℕ} {n : ℕ} {g g' : ℕ → ℕ → ℕ} {exits : List ℕ} where
  pub exits_first : ExitsRoom cells n g exits → ((v i : ℕ) → g v i ≡ g' v i) → ExitsLeft cells n g g' exits exits
  exits_first r e = record { long = r.long; is = λ v i l h. ap (λ (y : ℕ). get_or exits (place v i) 0 + y) (sym (e v i)) }

  module _ {exits' : List ℕ} (p : ExitsLeft cells n g g' exits exits') (a g'' : ℕ → ℕ → ℕ) (e : (v i : ℕ) → g' v i ≡ a v i + g'' v i) where
    pub exits_fit : ExitsRoom cells n g exits → ExitsRoom cells n a exits'
    exits_fit r = record { long = p.long; room = λ v i l h. omega (arith, p.is v i l h, e v i, r.room v i l h) }

    pub exits_more : {exits'' : List ℕ} → ExitsAdded cells n a exits' exits'' → ExitsLeft cells n g g'' exits exits''
    exits_more {exits''} q = record { long = q.long; is = λ v i l h. omega (arith, p.is v i l h, e v i, q.is v i l h) }

  pub exits_all : {exits' : List ℕ} → ExitsLeft cells n g g' exits exits' → ((v i : ℕ) → g' v i ≡ 0) → ExitsAdded cells n g exits exits'
  exits_all p z = record { long = p.long; is = λ v i l h. omega (arith, p.is v i l h, z v i) }

-- the lowest h frames of a stack: the frame on top, and those below it
module _ (k : Store) (n v : ℕ) (l : v < n) (h j : ℕ) (q : j < height_in k.cells v) (e : h ≡ j + 1) (g : Frame) (is : frame_in k n v j ≡ g) where
  split : stack_of k.work (base v) h ≡ g ∷ stack_of k.work (base v) j
  split = lowest k n v l h j q e ∙ ap (λ (f : Frame). f ∷ stack_of k.work (base v) j) is

  pub jobs_lower : (x : ℕ) → jobs_at x (stack_of k.work (base v) h) ≡ jobs_at x (g ∷ []) + jobs_at x (stack_of k.work (base v) j)
  jobs_lower x = ap (jobs_at x) split ∙ jobs_cons x g (stack_of k.work (base v) j)

  pub exits_lower : (w i : ℕ) → exits_to w i (stack_of k.work (base v) h) ≡ exits_to w i (g ∷ []) + exits_to w i (stack_of k.work (base v) j)
  exits_lower w i = ap (exits_to w i) split ∙ exits_cons w i g (stack_of k.work (base v) j)

pub jobs_end : (w : List ℕ) (from h : ℕ) → h ≡ 0 → (x : ℕ) → jobs_at x (stack_of w from h) ≡ 0
unfolding jobs_at
jobs_end w from h e x = ap (jobs_at x) (stack_none w from h e)

pub exits_end : (w : List ℕ) (from h : ℕ) → h ≡ 0 → (v i : ℕ) → exits_to v i (stack_of w from h) ≡ 0
unfolding exits_to
exits_end w from h e v i = ap (exits_to v i) (stack_none w from h e)

-- HOW MANY

zeros : (n i : ℕ) → ◌≡◌ {A = ℕ} (get_or (replicate n 0) i 0) 0
zeros zero i = refl
zeros (suc n) zero = refl
zeros (suc n) (suc i) = zeros n i

jobs_most : (x : ℕ) (fs : List Frame) → jobs_at x fs ≤ length fs
unfolding jobs_at
jobs_most x [] = omega arith
jobs_most x (Frame.job a k c ∷ fs) = omega (arith, jobs_most x fs, jobs_cons x (Frame.job a k c) fs, one_job a k c x)
jobs_most x (Frame.exit v i ∷ fs) = omega (arith, jobs_most x fs)
jobs_most x (Frame.sleep ∷ fs) = omega (arith, jobs_most x fs)
jobs_most x (Frame.bingo ∷ fs) = omega (arith, jobs_most x fs)

exits_most : (v i : ℕ) (fs : List Frame) → exits_to v i fs ≤ length fs
unfolding exits_to
exits_most v i [] = omega arith
exits_most v i (Frame.job a k c ∷ fs) = omega (arith, exits_most v i fs)
exits_most v i (Frame.exit w j ∷ fs) = omega (arith, exits_most v i fs, exits_cons v i (Frame.exit w j) fs, one_exit v i w j)
exits_most v i (Frame.sleep ∷ fs) = omega (arith, exits_most v i fs)
exits_most v i (Frame.bingo ∷ fs) = omega (arith, exits_most v i fs)

upto_most : (f : ℕ → ℕ) (n : ℕ) → ((v : ℕ) → v < n → f v ≤ height) → upto f n ≤ n * height
unfolding upto
upto_most f zero h = omega arith
upto_most f (suc n) h = omega (arith, upto_most f n (λ v l. h v (omega arith)), h n (omega arith))

pub upto_next : (f : ℕ → ℕ) (n j : ℕ) → n ≡ j + 1 → upto f n ≡ f j + upto f j
unfolding upto
upto_next f n j e = rw (e, add-one j)

pub upto_end : (f : ℕ → ℕ) (n : ℕ) → n ≡ 0 → upto f n ≡ 0
unfolding upto
upto_end f n e = rw e

-- all frames are at most 8,208, and so few are at one offset or for one frame
module _ {k : Store} {n : ℕ} (p : Kept k n) where
  few_jobs : (x : ℕ) → all_jobs k n x < 65536
  few_jobs x =
      let m = upto_most (λ v. jobs_at x (stack_in k n v)) n (λ v l. omega (arith, jobs_most x (stack_in k n v), height_is k n v l, (heights p).most v)) in
      omega (arith, m, p.few)

  few_exits : (w i : ℕ) → all_exits k n w i < 65536
  few_exits w i =
      let m = upto_most (λ v. exits_to w i (stack_in k n v)) n (λ v l. omega (arith, exits_most w i (stack_in k n v), height_is k n v l, (heights p).most v)) in
      omega (arith, m, p.few)

  -- so there is room for all in counters that are 0
  pub jobs_room : {jobs : List ℕ} → jobs ≡ replicate 1024 0 → JobsRoom (all_jobs k n) jobs
  jobs_room {jobs} e = record {
    long = ap length e ∙ length-replicate {A = ℕ} 1024 0;
    room = λ x m. omega (arith, ap (λ (l : List ℕ). get_or l x 0) e, zeros 1024 x, few_jobs x);
  }

  pub exits_room : {exits : List ℕ} → exits ≡ replicate 8208 0 → ExitsRoom k.cells n (all_exits k n) exits
  exits_room {exits} e = record {
    long = ap length e ∙ length-replicate {A = ℕ} 8208 0;
    room = λ v i l h. omega (arith, ap (λ (z : List ℕ). get_or z (place v i) 0) e, zeros 8208 (place v i), few_exits v i);
  }

module _ {k : Store} {n : ℕ} where
  pub jobs_tallied : {jobs jobs' : List ℕ} → jobs ≡ replicate 1024 0 → JobsAdded (all_jobs k n) jobs jobs' → JobsTallied k n jobs'
  jobs_tallied e a = record { long = a.long; is = λ x m. omega (arith, ap (λ (l : List ℕ). get_or l x 0) e, zeros 1024 x, a.is x m) }

  pub exits_tallied : {exits exits' : List ℕ} → exits ≡ replicate 8208 0 → ExitsAdded k.cells n (all_exits k n) exits exits' → ExitsTallied k n exits'
  exits_tallied e a = record {
    long = a.long;
    is = λ v i l h. omega (arith, ap (λ (z : List ℕ). get_or z (place v i) 0) e, zeros 8208 (place v i), a.is v i l h);
  }
