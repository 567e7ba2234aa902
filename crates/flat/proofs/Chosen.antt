-- A part that is done has no job that shows which argument it is. Where each EXIT has room, each EXIT on top of a stack can be given an argument of its JOIN's job
-- that isn't named again, has no job, and is no other's. Assumes nothing.
use mathlib.Core.Bool.{true, false}
use mathlib.Core.List.{List, [], ◌∷◌, ◌++◌}
use mathlib.Core.Logic.{◌⊎◌, inl, inr, ◌≢◌}
use mathlib.Core.Path.{◌≡◌, refl, sym, ◌∙◌, ap, ap₂, subst}
use Prim.Native.Nat.{ℕ, zero, suc, ◌+◌, ◌<◌, ◌≤◌}
use native.Mathlib.Omega.{arith}
use lib.Dec.{ltb}
use lib.ListN.{get_or, length, drop}
use Rattle.paper.specs.Tree.{label, preorder, size, Correct, Position, subterm}
use Rattle.paper.specs.Strategy.{Step}
use Rattle.paper.specs.Book.{Term, Book, arity, steps}
use Rattle.paper.specs.Machine.{Limits}
use Rattle.paper.specs.Sound.{In, Sound}
use Rattle.paper.proofs.Numbers.{if_same, same_is, other_is}
use Rattle.paper.proofs.Tests.{eqb_cases, eqb_true, eqb_false, ltb_cases}
use Rattle.paper.proofs.Trees.{size_preorder}
use Rattle.flat.specs.Symbols.{argument}
use Rattle.flat.specs.Machine.{Frame, FlatUnit, FlatState, unit}
use Rattle.flat.specs.Rules.{nth_frame, jobs, jobs_at, exits_to, same_pair, upto, stack}
use Rattle.flat.specs.Relation.{Valid, offset}
use Rattle.flat.specs.Meets.{Job, Taken, Carries, Stacked, frame, Meets}
use Rattle.flat.proofs.Bounds.{place_at, offset_unique, jobs_cons, upto_swap}
use Rattle.flat.proofs.Counts.{same_pair_is}
use Rattle.flat.proofs.Heights.{same_parent}
use Rattle.flat.proofs.Lengths.{named_at, named_sum}
use Rattle.flat.proofs.Lists.{upto_le, upto_same, upto_zero, upto_one, upto_two, upto_add}
use Rattle.flat.proofs.Offsets.{symbol_at, argument_valid, argument_offset}
use Rattle.flat.proofs.Sites.{same_last}
use Rattle.flat.proofs.Steps.{within_drop}
use Rattle.flat.proofs.Tables.{one}

-- SUMS

-- the k-th number at which a function is 0
pub find : (f : ℕ → ℕ) (k n : ℕ) → k + upto (λ x. one (f x)) n < n → (x : ℕ) × (x < n) × (f x ≡ 0) × (k + upto (λ y. one (f y)) x ≡ x)
unfolding upto one
find f k zero l = absurd (omega (arith, l))
find f k (suc n) l =
    elim (ltb_cases (k + upto (λ x. one (f x)) n) n) [
      | inl p ↦ (let (x, a, b, c) = find f k n p.1 in (x, omega (arith, a), b, c))
      | inr p ↦ (let a = p.1 in (n, omega arith, zero_one (f n) (omega (arith, a, l)), omega (arith, a, l)))
    ]
  where
    zero_one : (m : ℕ) → one m ≡ 0 → m ≡ 0
    zero_one zero e = refl
    zero_one (suc m) e = absurd (omega (arith, e))

one_most : (m : ℕ) → one m ≤ m
unfolding one
one_most zero = omega arith
one_most (suc m) = omega arith

pub upto_later : (f : ℕ → ℕ) (v n : ℕ) → v < n → upto f v + f v ≤ upto f n
unfolding upto
upto_later f v zero l = absurd (omega (arith, l))
upto_later f v (suc n) l =
    elim (eqb_cases v n) [
      | inl p ↦ (let a = ap f p.1 in let b = ap (upto f) p.1 in omega (arith, a, b))
      | inr p ↦ (let a = p.1 in omega (arith, upto_later f v n (omega (arith, a, l))))
    ]

-- a sum of numbers of which one is not 0, and that one at most 1
upto_few : (f : ℕ → ℕ) (n : ℕ) → ((x : ℕ) → f x ≤ 1) → ((x y : ℕ) → x < n → y < n → 1 ≤ f x → 1 ≤ f y → x ≡ y) → upto f n ≤ 1
unfolding upto
upto_few f zero h o = omega arith
upto_few f (suc n) h o =
    elim (ltb_cases 0 (f n)) [
      | inl p ↦
          (let a = p.1 in
          let z = none n (λ x l. only x l (omega (arith, a))) in
          omega (arith, h n, z))
      | inr p ↦ (let a = p.1 in omega (arith, a, upto_few f n h (λ x y l k. o x y (omega (arith, l)) (omega (arith, k)))))
    ]
  where
    only : (x : ℕ) → x < n → 1 ≤ f n → f x ≡ 0
    only x l a =
        elim (ltb_cases 0 (f x)) [
          | inl q ↦ absurd (let b = q.1 in let e = o x n (omega (arith, l)) (omega arith) (omega (arith, b)) a in omega (arith, e, l))
          | inr q ↦ (let b = q.1 in omega (arith, b))
        ]

    none : (m : ℕ) → ((x : ℕ) → x < m → f x ≡ 0) → upto f m ≡ 0
    none zero h = refl
    none (suc m) h = omega (arith, h m (omega arith), none m (λ x l. h x (omega (arith, l))))

-- FRAMES UNDER JOBS

unfoldable pub front : (Frame → ℕ) → List Frame → ℕ
front φ [] = 0
front φ (f ∷ fs) = φ f

unfoldable weigh : (Frame → ℕ) → List Frame → ℕ
unfolding front
weigh φ [] = 0
weigh φ (Frame.job a k c ∷ fs) = front φ fs + weigh φ fs
weigh φ (Frame.exit w i ∷ fs) = weigh φ fs
weigh φ (Frame.sleep ∷ fs) = weigh φ fs
weigh φ (Frame.bingo ∷ fs) = weigh φ fs

unfoldable pub exit_here : ℕ → ℕ → Frame → ℕ
unfolding same_pair
exit_here w i (Frame.job a k c) = 0
exit_here w i (Frame.exit v x) = same_pair w i v x
exit_here w i Frame.sleep = 0
exit_here w i Frame.bingo = 0

unfoldable job_here : ℕ → Frame → ℕ
unfolding if_same
job_here b (Frame.job a k c) = if_same a b 1
job_here b (Frame.exit v x) = 0
job_here b Frame.sleep = 0
job_here b Frame.bingo = 0

weigh_add : (φ ψ : Frame → ℕ) (fs : List Frame) → weigh (λ f. φ f + ψ f) fs ≡ weigh φ fs + weigh ψ fs
unfolding weigh front
weigh_add φ ψ [] = refl
weigh_add φ ψ (Frame.job a k c ∷ []) = refl
weigh_add φ ψ (Frame.job a k c ∷ f ∷ fs) = omega (arith, weigh_add φ ψ (f ∷ fs))
weigh_add φ ψ (Frame.exit w i ∷ fs) = weigh_add φ ψ fs
weigh_add φ ψ (Frame.sleep ∷ fs) = weigh_add φ ψ fs
weigh_add φ ψ (Frame.bingo ∷ fs) = weigh_add φ ψ fs

-- an EXIT is under a job or on top
exits_split : (w i : ℕ) (fs : List Frame) → weigh (exit_here w i) fs + front (exit_here w i) fs ≤ exits_to w i fs
unfolding weigh front exit_here exits_to
exits_split w i [] = omega arith
exits_split w i (Frame.job a k c ∷ fs) = omega (arith, exits_split w i fs)
exits_split w i (Frame.exit v x ∷ fs) = omega (arith, exits_split w i fs)
exits_split w i (Frame.sleep ∷ fs) = omega (arith, exits_split w i fs)
exits_split w i (Frame.bingo ∷ fs) = omega (arith, exits_split w i fs)

-- so is a job
jobs_split : (b : ℕ) (fs : List Frame) → weigh (job_here b) fs + front (job_here b) fs ≤ jobs_at b fs
unfolding weigh front job_here jobs_at
jobs_split b [] = omega arith
jobs_split b (Frame.job a k c ∷ fs) = omega (arith, jobs_split b fs, jobs_cons b a k c fs)
jobs_split b (Frame.exit v x ∷ fs) = omega (arith, jobs_split b fs)
jobs_split b (Frame.sleep ∷ fs) = omega (arith, jobs_split b fs)
jobs_split b (Frame.bingo ∷ fs) = omega (arith, jobs_split b fs)

pub frame_here : (i : ℕ) (f : Frame) (fs : List Frame) → i ≡ length fs → nth_frame i (f ∷ fs) ≡ f
unfolding nth_frame
frame_here i f fs e = rw (eqb_true i (length fs) e, nth_frame)

pub frame_past : (i : ℕ) (f : Frame) (fs : List Frame) → i ≢ length fs → nth_frame i (f ∷ fs) ≡ nth_frame i fs
unfolding nth_frame
frame_past i f fs e = rw (eqb_false i (length fs) e, nth_frame)

pub frame_none : (i : ℕ) (fs : List Frame) → length fs ≤ i → nth_frame i fs ≡ Frame.sleep
unfolding nth_frame
frame_none i [] l = refl
frame_none i (f ∷ fs) l = frame_past i f fs (λ e. omega (arith, e, l)) ∙ frame_none i fs (omega (arith, l))

jobs_least : (b : ℕ) (f : Frame) (fs : List Frame) → jobs_at b fs ≤ jobs_at b (f ∷ fs)
unfolding jobs_at
jobs_least b (Frame.job a k c) fs = omega (arith, jobs_cons b a k c fs)
jobs_least b (Frame.exit v x) fs = omega arith
jobs_least b Frame.sleep fs = omega arith
jobs_least b Frame.bingo fs = omega arith

-- the job at an index counts
pub jobs_some : (b i k c : ℕ) (fs : List Frame) → i < length fs → nth_frame i fs ≡ Frame.job b k c → 1 ≤ jobs_at b fs
jobs_some b i k c [] l e = absurd (omega (arith, l))
jobs_some b i k c (f ∷ fs) l e =
    elim (eqb_cases i (length fs)) [
      | inl p ↦
          (let q : f ≡ Frame.job b k c = sym (frame_here i f fs p.1) ∙ e in
          let x = ap (λ (z : Frame). jobs_at b (z ∷ fs)) q in
          omega (arith, x, jobs_cons b b k c fs, same_is b b 1 refl))
      | inr p ↦
          (let a = p.1 in
          omega (arith, jobs_some b i k c fs (omega (arith, a, l)) (sym (frame_past i f fs p.1) ∙ e), jobs_least b f fs))
    ]

jobs_two : (b i j k c k' c' : ℕ) (fs : List Frame) → i < length fs → j < length fs → i ≢ j → nth_frame i fs ≡ Frame.job b k c → nth_frame j fs ≡ Frame.job b k' c' → 2 ≤ jobs_at b fs
jobs_two b i j k c k' c' [] l l' ne e e' = absurd (omega (arith, l))
jobs_two b i j k c k' c' (f ∷ fs) l l' ne e e' =
    elim (eqb_cases i (length fs)) [
      | inl p ↦
          (let a = p.1 in
          let q : f ≡ Frame.job b k c = sym (frame_here i f fs p.1) ∙ e in
          let x = ap (λ (z : Frame). jobs_at b (z ∷ fs)) q in
          let n : j ≢ length fs = λ y. ne (p.1 ∙ sym y) in
          omega (arith, x, jobs_cons b b k c fs, same_is b b 1 refl, jobs_some b j k' c' fs (omega (arith, n, l')) (sym (frame_past j f fs n) ∙ e')))
      | inr p ↦
          elim (eqb_cases j (length fs)) [
            | inl r ↦
                (let a = p.1 in
                let q : f ≡ Frame.job b k' c' = sym (frame_here j f fs r.1) ∙ e' in
                let x = ap (λ (z : Frame). jobs_at b (z ∷ fs)) q in
                omega (arith, x, jobs_cons b b k' c' fs, same_is b b 1 refl, jobs_some b i k c fs (omega (arith, a, l)) (sym (frame_past i f fs p.1) ∙ e)))
            | inr r ↦
                (let a = p.1 in
                let d = r.1 in
                omega (
                  arith,
                  jobs_two b i j k c k' c' fs (omega (arith, a, l)) (omega (arith, d, l')) ne (sym (frame_past i f fs p.1) ∙ e) (sym (frame_past j f fs r.1) ∙ e'),
                  jobs_least b f fs,
                ))
          ]
    ]

-- a job that isn't under a job
jobs_none : (f : Frame) (fs : List Frame) → jobs (f ∷ []) ≡ 0 → (φ : Frame → ℕ) → weigh φ (f ∷ fs) ≡ weigh φ fs
unfolding jobs weigh
jobs_none (Frame.job a k c) fs e φ = absurd (omega (arith, e))
jobs_none (Frame.exit v x) fs e φ = refl
jobs_none Frame.sleep fs e φ = refl
jobs_none Frame.bingo fs e φ = refl

weigh_most : (b : ℕ) (f : Frame) (fs : List Frame) → weigh (job_here b) (f ∷ fs) ≤ weigh (job_here b) fs + front (job_here b) fs
unfolding weigh
weigh_most b (Frame.job a k c) fs = omega arith
weigh_most b (Frame.exit v x) fs = omega arith
weigh_most b Frame.sleep fs = omega arith
weigh_most b Frame.bingo fs = omega arith

front_split : (b : ℕ) (f : Frame) (fs : List Frame) → front (job_here b) (f ∷ fs) + jobs_at b fs ≤ jobs_at b (f ∷ fs)
unfolding front job_here jobs_at
front_split b (Frame.job a k c) fs = omega (arith, jobs_cons b a k c fs)
front_split b (Frame.exit v x) fs = omega arith
front_split b Frame.sleep fs = omega arith
front_split b Frame.bingo fs = omega arith

no_front : (b i k c : ℕ) (fs : List Frame) → nth_frame i fs ≡ Frame.job b k c → jobs_at b fs ≤ 1 → suc i < length fs → front (job_here b) fs ≡ 0
no_front b i k c [] q h l = absurd (omega (arith, l))
no_front b i k c (f ∷ fs) q h l =
    omega (arith, front_split b f fs, h, jobs_some b i k c fs (omega (arith, l)) (sym (frame_past i f fs (λ x. omega (arith, x, l))) ∙ q))

sleepless : jobs (Frame.sleep ∷ []) ≡ 0
unfolding jobs
sleepless = refl

weigh_none : (b i k c : ℕ) (fs : List Frame) → i < length fs → nth_frame i fs ≡ Frame.job b k c → jobs_at b fs ≤ 1 → jobs (nth_frame (suc i) fs ∷ []) ≡ 0 →
    weigh (job_here b) fs ≡ 0
weigh_none b i k c [] l e o z = absurd (omega (arith, l))
weigh_none b i k c (f ∷ fs) l e o z =
    elim (eqb_cases i (length fs)) [
      | inl p ↦
          (let q : f ≡ Frame.job b k c = sym (frame_here i f fs p.1) ∙ e in
          let x = ap (λ (y : Frame). jobs_at b (y ∷ fs)) q in
          omega (arith, x, jobs_cons b b k c fs, same_is b b 1 refl, o, jobs_split b fs, weigh_most b f fs))
      | inr p ↦
          (let n = p.1 in
          below n (λ y. weigh_none b i k c fs (omega (arith, n, l)) (sym (frame_past i f fs p.1) ∙ e) (omega (arith, o, jobs_least b f fs)) y))
    ]
  where
    below : i ≢ length fs → (jobs (nth_frame (suc i) fs ∷ []) ≡ 0 → weigh (job_here b) fs ≡ 0) → weigh (job_here b) (f ∷ fs) ≡ 0
    below n ih =
        let r : i < length fs = omega (arith, n, l) in
        let e₂ : nth_frame i fs ≡ Frame.job b k c = sym (frame_past i f fs n) ∙ e in
        let o₂ : jobs_at b fs ≤ 1 = omega (arith, o, jobs_least b f fs) in
        elim (eqb_cases (suc i) (length fs)) [
          | inl y ↦
              (let d = y.1 in
              let w : weigh (job_here b) fs ≡ 0 = ih (ap (λ (g : Frame). jobs (g ∷ [])) (frame_none (suc i) fs (omega (arith, d))) ∙ sleepless) in
              let v : jobs (f ∷ []) ≡ 0 = ap (λ (g : Frame). jobs (g ∷ [])) (sym (frame_here (suc i) f fs y.1)) ∙ z in
              jobs_none f fs v (job_here b) ∙ w)
          | inr y ↦
              (let d = y.1 in
              let w : weigh (job_here b) fs ≡ 0 = ih (ap (λ (g : Frame). jobs (g ∷ [])) (sym (frame_past (suc i) f fs d)) ∙ z) in
              let u = no_front b i k c fs e₂ o₂ (omega (arith, d, r)) in
              omega (arith, w, u, weigh_most b f fs))
        ]

-- OF A STATE THAT MEETS THE RULES

module _ (B : Book) (sound : Sound B) (L : Limits) (s : FlatState) (m : Meets B L s) (t : Term) (spelt : s.symbols ≡ preorder t) (correct : Correct (arity B) t) where
  abbrev xs : List ℕ
  xs = s.symbols

  abbrev operator : ℕ → ℕ
  operator b = get_or xs b 0

  abbrev arg : ℕ → ℕ → ℕ
  arg b x = argument (arity B) xs b x

  long : length xs ≡ size t
  long = ap length spelt ∙ sym (size_preorder t)

  -- an argument's offset is that of its position
  pub argument_at : (b x : ℕ) → b < length xs → x < arity B (operator b) → (p : Position) × Valid p t × (offset p t ≡ b) × Valid (p ++ (x ∷ [])) t × (arg b x ≡ offset (p ++ (x ∷ [])) t)
  argument_at b x l k =
      let (p, v, e) = place_at t b (omega (arith, l, long)) in
      let o : operator b ≡ label (subterm p t) = ap₂ (λ (z : List ℕ) (y : ℕ). get_or z y 0) spelt (sym e) ∙ symbol_at p t v in
      let k₂ : x < arity B (label (subterm p t)) = subst (λ (z : ℕ). x < arity B z) o k in (
        p,
        v,
        e,
        argument_valid (arity B) p x t v correct k₂,
        ap₂ (λ (z : List ℕ) (y : ℕ). argument (arity B) z y x) spelt (sym e) ∙ argument_offset (arity B) p x t v correct k₂,
      )

  -- so an argument is one of one term, and by one number
  pub parent : (b b' x x' : ℕ) → b < length xs → b' < length xs → x < arity B (operator b) → x' < arity B (operator b') → arg b x ≡ arg b' x' → (b ≡ b') × (x ≡ x')
  parent b b' x x' l l' k k' e =
      let (p, v, f, u, g) = argument_at b x l k in
      let (p', v', f', u', g') = argument_at b' x' l' k' in
      let q : p ++ (x ∷ []) ≡ p' ++ (x' ∷ []) = offset_unique (p ++ (x ∷ [])) (p' ++ (x' ∷ [])) t u u' (sym g ∙ e ∙ g') in
      (sym f ∙ ap (λ (z : Position). offset z t) (same_parent p p' x x' q) ∙ f', same_last p p' x x' q)

  -- no two jobs at one offset
  pub one_frame : (v i v' i' b k c k' c' : ℕ) → i < length (stack s v) → i' < length (stack s v') → frame s v i ≡ Frame.job b k c → frame s v' i' ≡ Frame.job b k' c' → (v ≡ v') × (i ≡ i')
  one_frame v i v' i' b k c k' c' l l' e e' =
      elim (eqb_cases v v') [
        | inl p ↦
            elim (eqb_cases i i') [
              | inl q ↦ (p.1, q.1)
              | inr q ↦
                  absurd (
                  let l₂ : i' < length (stack s v) = subst (λ (z : ℕ). i' < length (stack s z)) (sym p.1) l' in
                  let e₂ : frame s v i' ≡ Frame.job b k' c' = ap (λ (z : ℕ). frame s z i') p.1 ∙ e' in
                  let z = jobs_two b i i' k c k' c' (stack s v) l l₂ q.1 e e₂ in
                  let x = upto_one (λ u. jobs_at b (stack s u)) v (suc v) (omega arith) in
                  let y = m.distinct b (suc v) in omega (arith, x, y, z)
                  )
            ]
        | inr p ↦
            absurd (
            let x = upto_two (λ u. jobs_at b (stack s u)) v v' (suc (v + v')) p.1 (omega arith) (omega arith) in
            let y = m.distinct b (suc (v + v')) in
            omega (arith, x, y, jobs_some b i k c (stack s v) l e, jobs_some b i' k' c' (stack s v') l' e')
            )
      ]

  job_inside : (a k c : ℕ) → Job B xs a k c → a < length xs
  job_inside a zero c h = h.0
  job_inside a (suc k) c h = h.0

  in_frames : (fs : List Frame) (i : ℕ) → i < length fs → In (nth_frame i fs) fs
  in_frames [] i l = absurd (omega (arith, l))
  in_frames (f ∷ fs) i l =
      elim (eqb_cases i (length fs)) [
        | inl p ↦ inl (frame_here i f fs p.1)
        | inr p ↦
            (let a = p.1 in
            subst (λ (g : Frame). In g (f ∷ fs)) (sym (frame_past i f fs p.1)) (inr (in_frames fs i (omega (arith, a, l)))))
      ]

  pub frame_inside : (v i b k c : ℕ) → i < length (stack s v) → frame s v i ≡ Frame.job b k c → b < length xs
  frame_inside v i b k c l e =
      job_inside b k c (m.job v b k c (subst (λ (g : Frame). In g (stack s v)) e (in_frames (stack s v) i l)))

  -- a number that is no unit's has SLEEP
  pub stacked_any : (v : ℕ) → Stacked B xs (frame s) v (stack s v)
  stacked_any v =
      elim (ltb_cases v (length s.units)) [
        | inl p ↦ m.stacks v p.1
        | inr p ↦
            (let a = p.1 in
            let b = m.some_unit in
            subst (λ (z : List Frame). Stacked B xs (frame s) v z) (sym (beyond s.units v a)) (refl, omega (arith, a, b)))
      ]
    where
      beyond : (us : List FlatUnit) (v : ℕ) → length us ≤ v → (unit us v).stack ≡ Frame.sleep ∷ []
      beyond [] v l = refl
      beyond (x ∷ us) zero l = absurd (omega (arith, l))
      beyond (x ∷ us) (suc v) l = beyond us v (omega (arith, l))

  -- THE JOB OF A JOIN

  module _ (w i b k c : ℕ) (l : i < length (stack s w)) (here : frame s w i ≡ Frame.job b (suc k) c) where
    abbrev ss : List Step
    ss = drop k (steps B (operator b))

    abbrev n : ℕ
    n = arity B (operator b)

    inside_b : b < length xs
    inside_b = frame_inside w i b (suc k) c l here

    weight : Frame → ℕ
    weight f = job_here b f + exit_here w i f

    -- a job at one of its arguments stands on it or on an EXIT of its
    hits : ℕ → ℕ
    hits a = upto (λ x. if_same a (arg b x) 1) n

    same_most : (x y : ℕ) → if_same x y 1 ≤ 1
    same_most x y = elim (eqb_cases x y) [ inl p ↦ omega (arith, same_is x y 1 p.1) | inr p ↦ omega (arith, other_is x y 1 p.1) ]

    same_some : (x y : ℕ) → 1 ≤ if_same x y 1 → x ≡ y
    same_some x y h = elim (eqb_cases x y) [ inl p ↦ p.1 | inr p ↦ absurd (omega (arith, h, other_is x y 1 p.1)) ]

    hits_most : (a : ℕ) → hits a ≤ 1
    unfolding hits
    hits_most a =
        upto_few (λ x. if_same a (arg b x) 1) n (λ x. same_most a (arg b x))
        (λ x y lx ly hx hy. (parent b b x y inside_b inside_b lx ly (sym (same_some a (arg b x) hx) ∙ same_some a (arg b y) hy)).1)

    hits_some : (a : ℕ) → 1 ≤ hits a → (x : ℕ) × (x < n) × (a ≡ arg b x)
    unfolding hits upto
    hits_some a h = go n h
      where
        go : (n : ℕ) → 1 ≤ upto (λ x. if_same a (arg b x) 1) n → (x : ℕ) × (x < n) × (a ≡ arg b x)
        go zero h = absurd (omega (arith, h))
        go (suc n) h =
            elim (eqb_cases a (arg b n)) [
              | inl p ↦ (n, omega arith, p.1)
              | inr p ↦ (let z = other_is a (arg b n) 1 p.1 in let (x, q, e) = go n (omega (arith, h, z)) in (x, omega (arith, q), e))
            ]

    taken_here : (b' k' c' a : ℕ) → b' < length xs → Taken B xs (Frame.job b' k' c') a → 1 ≤ hits a → b' ≡ b
    taken_here b' zero c' a l' h z = absurd h
    taken_here b' (suc k') c' a l' h z =
        let (x, q, e) = hits_some a z in
        let (x', q', e', un) = h in
        (parent b' b x' x l' inside_b q' q (sym e' ∙ e)).0

    -- what the job at a stands on
    carried : (v a : ℕ) (fs : List Frame) → ((f : Frame) → In f fs → In f (stack s v)) → Carries B xs (frame s) a fs → 1 ≤ hits a → 1 ≤ front weight fs
    unfolding front weight job_here exit_here
    carried v a [] sub h z = absurd h
    carried v a (Frame.job b' k' c' ∷ fs) sub h z =
        let e = taken_here b' k' c' a (job_inside b' k' c' (m.job v b' k' c' (sub (Frame.job b' k' c') (inl refl)))) h z in
        omega (arith, same_is b' b 1 e)
    carried v a (Frame.exit w' i' ∷ fs) sub h z = omega (arith, on_exit (frame s w' i') refl h)
      where
        there : i' < length (stack s w')
        there = (m.exits v w' i' (sub (Frame.exit w' i') (inl refl))).1

        on_exit : (f : Frame) → frame s w' i' ≡ f → Taken B xs f a → 1 ≤ same_pair w i w' i'
        on_exit (Frame.job b' k' c') e h =
            let q = taken_here b' k' c' a (frame_inside w' i' b' k' c' there e) h z in
            let (x, y) = one_frame w i w' i' b (suc k) c k' c' l there here (e ∙ ap (λ (d : ℕ). Frame.job d k' c') q) in
            omega (arith, same_pair_is w i w' i' x y)
        on_exit (Frame.exit v' x') e h = absurd h
        on_exit Frame.sleep e h = absurd h
        on_exit Frame.bingo e h = absurd h
    carried v a (Frame.sleep ∷ fs) sub h z = absurd h
    carried v a (Frame.bingo ∷ fs) sub h z =
        absurd (let (x, q, e) = hits_some a z in let p : 1 ≤ arg b x = unfold argument in omega arith in omega (arith, h, e, p))

    -- jobs at its arguments
    spread : (v : ℕ) (fs : List Frame) → ((f : Frame) → In f fs → In f (stack s v)) → Stacked B xs (frame s) v fs → upto (λ x. jobs_at (arg b x) fs) n ≤ weigh weight fs
    unfolding weigh
    spread v [] sub h = absurd h
    spread v (Frame.job a k' c' ∷ fs) sub h =
        let e = upto_same (λ x. jobs_at (arg b x) (Frame.job a k' c' ∷ fs)) (λ x. if_same a (arg b x) 1 + jobs_at (arg b x) fs) n (λ x. jobs_cons (arg b x) a k' c' fs) in
        let d = upto_add (λ x. if_same a (arg b x) 1) (λ x. jobs_at (arg b x) fs) n in
        let r = spread v fs (λ f y. sub f (inr y)) h.1 in
        let z : hits a ≤ front weight fs =
        elim (ltb_cases 0 (hits a)) [
          | inl p ↦ (let y = p.1 in omega (arith, hits_most a, carried v a fs (λ f y. sub f (inr y)) h.0 (omega (arith, y))))
          | inr p ↦ (let y = p.1 in omega (arith, y))
        ] in
        let u : upto (λ x. if_same a (arg b x) 1) n ≡ hits a = unfold hits in refl in
        omega (arith, e, d, r, z, u)
    spread v (Frame.exit w' i' ∷ fs) sub h =
        let e = upto_same (λ x. jobs_at (arg b x) (Frame.exit w' i' ∷ fs)) (λ x. jobs_at (arg b x) fs) n (λ x. unfold jobs_at in refl) in
        omega (arith, e, spread v fs (λ f y. sub f (inr y)) h.1)
    spread v (Frame.sleep ∷ fs) sub h =
        let q = upto_same (λ x. jobs_at (arg b x) (Frame.sleep ∷ fs)) (λ x. 0) n (λ x. ap (λ (y : List Frame). jobs_at (arg b x) (Frame.sleep ∷ y)) h.0 ∙ unfold jobs_at in refl) in
        omega (arith, q, upto_zero (λ x. 0) n (λ x. refl))
    spread v (Frame.bingo ∷ fs) sub h =
        let q = upto_same (λ x. jobs_at (arg b x) (Frame.bingo ∷ fs)) (λ x. 0) n (λ x. ap (λ (y : List Frame). jobs_at (arg b x) (Frame.bingo ∷ y)) h.0 ∙ unfold jobs_at in refl) in
        omega (arith, q, upto_zero (λ x. 0) n (λ x. refl))

    -- ROOM

    abbrev units : ℕ
    units = length s.units

    -- what an argument bears: it is named, or has a job
    load : ℕ → ℕ
    load x = named_at x ss + upto (λ v. jobs_at (arg b x) (stack s v)) units

    -- EXITs of it on top of stacks
    unfoldable pub done : ℕ → ℕ
    done v = front (exit_here w i) (stack s v)

    own_total : upto (λ v. weigh (job_here b) (stack s v)) units ≤ jobs (frame s w (suc i) ∷ [])
    own_total =
        elim (ltb_cases 0 (jobs (frame s w (suc i) ∷ []))) [
          | inl p ↦
              (let a = p.1 in
              let q = upto_le (λ v. weigh (job_here b) (stack s v)) (λ v. jobs_at b (stack s v)) units (λ v. (let x = jobs_split b (stack s v) in omega (arith, x))) in
              omega (arith, a, q, m.distinct b units))
          | inr p ↦
              (let a = p.1 in
              let z = upto_zero (λ v. weigh (job_here b) (stack s v)) units (λ v. none v (omega (arith, a))) in
              omega (arith, z))
        ]
      where
        one_here : jobs_at b (stack s w) ≤ 1
        one_here = let x = upto_one (λ u. jobs_at b (stack s u)) w (suc w) (omega arith) in let y = m.distinct b (suc w) in omega (arith, x, y)

        none : (v : ℕ) → jobs (frame s w (suc i) ∷ []) ≡ 0 → weigh (job_here b) (stack s v) ≡ 0
        none v z =
            elim (eqb_cases v w) [
              | inl p ↦ ap (λ (y : ℕ). weigh (job_here b) (stack s y)) p.1 ∙ weigh_none b i (suc k) c (stack s w) l here one_here z
              | inr p ↦
                  (let x = upto_two (λ u. jobs_at b (stack s u)) v w (suc (v + w)) p.1 (omega arith) (omega arith) in
                  let y = m.distinct b (suc (v + w)) in
                  omega (arith, x, y, jobs_some b i (suc k) c (stack s w) l here, jobs_split b (stack s v)))
            ]

    few : upto (λ x. one (load x)) n + upto done units ≤ n
    unfolding load done
    few =
        let F : ℕ → ℕ → ℕ = λ v x. jobs_at (arg b x) (stack s v) in
        let W : ℕ → ℕ = λ v. weigh (job_here b) (stack s v) in
        let X : ℕ → ℕ = λ v. weigh (exit_here w i) (stack s v) in
        let a = upto_le (λ x. one (load x)) load n (λ x. one_most (load x)) in
        let a₂ = upto_add (λ x. named_at x ss) (λ x. upto (λ v. F v x) units) n in
        let a₃ = named_sum n ss (within_drop n k (steps B (operator b)) (sound.within (operator b))) in
        let a₄ = upto_swap F units n in
        let a₅ = upto_le (λ v. upto (λ x. F v x) n) (λ v. W v + X v) units
        (λ v. (let x = spread v (stack s v) (λ f h. h) (stacked_any v) in let y = weigh_add (job_here b) (exit_here w i) (stack s v) in
        let z : weigh weight (stack s v) ≡ weigh (λ f. job_here b f + exit_here w i f) (stack s v) = unfold weight in refl in omega (arith, x, y, z))) in
        let a₆ = upto_add W X units in
        let a₇ = upto_le (λ v. X v + front (exit_here w i) (stack s v)) (λ v. exits_to w i (stack s v)) units (λ v. exits_split w i (stack s v)) in
        let a₈ = upto_add X (λ v. front (exit_here w i) (stack s v)) units in
        let a₉ = m.room w i b k c l here in
        omega (arith, a, a₂, a₃, a₄, a₅, a₆, a₇, a₈, a₉, own_total)

    -- THE CHOICE for a unit whose top is such an EXIT
    unfoldable pick_of : (v : ℕ) → ((ltb (upto done v + upto (λ x. one (load x)) n) n ≡ true) × (upto done v + upto (λ x. one (load x)) n < n))
        ⊎ ((ltb (upto done v + upto (λ x. one (load x)) n) n ≡ false) × (n ≤ upto done v + upto (λ x. one (load x)) n)) → ℕ
    pick_of v (inl e) = (find load (upto done v) n e.1).0
    pick_of v (inr e) = 0

    pub pick : ℕ → ℕ
    pick v = pick_of v (ltb_cases (upto done v + upto (λ x. one (load x)) n) n)

    pick_is : (v : ℕ) → v < units → 1 ≤ done v → (pick v < n) × (load (pick v) ≡ 0) × (upto done v + upto (λ y. one (load y)) (pick v) ≡ pick v)
    unfolding pick
    pick_is v lv h = go (ltb_cases (upto done v + upto (λ x. one (load x)) n) n)
      where
        go : (z : ((ltb (upto done v + upto (λ x. one (load x)) n) n ≡ true) × (upto done v + upto (λ x. one (load x)) n < n))
            ⊎ ((ltb (upto done v + upto (λ x. one (load x)) n) n ≡ false) × (n ≤ upto done v + upto (λ x. one (load x)) n))) →
            (pick_of v z < n) × (load (pick_of v z) ≡ 0) × (upto done v + upto (λ y. one (load y)) (pick_of v z) ≡ pick_of v z)
        go (inl e) = unfold pick_of in (let (x, a, b, c) = find load (upto done v) n e.1 in (a, b, c))
        go (inr e) = absurd (let y = e.1 in omega (arith, y, few, upto_later done v units lv, h))

    pub pick_low : (v : ℕ) → v < units → 1 ≤ done v → pick v < n
    pick_low v lv h = (pick_is v lv h).0

    -- it isn't named, and has no job
    pub pick_unnamed : (v : ℕ) → v < units → 1 ≤ done v → named_at (pick v) ss ≡ 0
    unfolding load
    pick_unnamed v lv h = let z = (pick_is v lv h).1 in omega (arith, z)

    pub pick_free : (v : ℕ) → v < units → 1 ≤ done v → upto (λ u. jobs_at (arg b (pick v)) (stack s u)) units ≡ 0
    unfolding load
    pick_free v lv h = let z = (pick_is v lv h).1 in omega (arith, z)

    -- two units have two
    pub pick_apart : (v u : ℕ) → v < units → u < units → 1 ≤ done v → 1 ≤ done u → pick v ≡ pick u → v ≡ u
    pick_apart v u lv lu hv hu e =
        let a = (pick_is v lv hv).2 in
        let b = (pick_is u lu hu).2 in
        let q : upto done v ≡ upto done u = (let z = ap (λ (y : ℕ). upto (λ x. one (load x)) y) e in omega (arith, a, b, e, z)) in
        elim (ltb_cases v u) [
          | inl p ↦ absurd (omega (arith, q, hv, upto_later done v u p.1))
          | inr p ↦
              elim (ltb_cases u v) [
                | inl r ↦ absurd (omega (arith, q, hu, upto_later done u v r.1))
                | inr r ↦ (let x = p.1 in let y = r.1 in omega (arith, x, y))
              ]
        ]
