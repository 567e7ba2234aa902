-- The test of a point is true exactly if the state meets the rules. Assumes nothing.
use mathlib.Core.Bool.{Bool, true, false, not, true≢false, false≢true}
use mathlib.Core.List.{List, [], ◌∷◌, ◌++◌, append_assoc, append-nil}
use mathlib.Core.Logic.{◌⊎◌, inl, inr, ◌≢◌}
use mathlib.Core.Path.{◌≡◌, refl, sym, ◌∙◌, ap, ap₂, subst}
use Prim.Native.Nat.{ℕ, zero, suc, ◌+◌, ◌<◌, ◌≤◌}
use native.Mathlib.Omega.{arith}
use lib.Dec.{eqb, leb, ltb}
use lib.ListN.{get_or, length, drop}
use Rattle.paper.specs.Strategy.{Step}
use Rattle.paper.specs.Book.{Book, arity, steps}
use Rattle.paper.specs.Writer.{same}
use Rattle.paper.specs.Machine.{Limits, exceeds}
use Rattle.paper.specs.Idle.{times}
use Rattle.paper.specs.Sound.{In, All, Unnamed}
use Rattle.paper.proofs.Tests.{eqb_cases, eqb_false, leb_cases, ltb_cases}
use Rattle.flat.specs.Symbols.{argument}
use Rattle.flat.specs.Sizes.{sizes}
use Rattle.flat.specs.Machine.{Frame, FlatUnit, FlatState, unit, idle_count, next_count}
use Rattle.flat.specs.Rules.{InGroup, AtJoin, forks_left, nth_frame, above, steps_left, jobs, jobs_at, exits_in, exits_to, of_rank, upto, spells, Waits, stack, Placing}
use Rattle.flat.specs.Relation.{Some}
use Rattle.flat.specs.Meets.{named, Job, Taken, Carries, Holds, Stacked, frame, Meets, PointRules}
use Rattle.flat.specs.Tested.{and, or, each_below, some_below, each_frame, each_of, is_some, in_group, at_join, unnamed, job_good, exit_good, awaited, count_good, room_good, frame_good, taken, carries, holds, stack_good, waits, rank_good, unit_good, part_good, order_good, tested, point_tested}
use Rattle.flat.proofs.Chosen.{upto_later, frame_here, frame_past}
use Rattle.flat.proofs.Lists.{upto_zero}
use Rattle.flat.proofs.Ranks.{times_here, times_past}

-- WHAT A TEST DECIDES

abbrev pub Decides : Bool → Type 0 → Type 0
Decides b P = (b ≡ true → P) × (P → b ≡ true)

decides_with : {P Q : Type 0} (b : Bool) → Decides b P → (P → Q) → (Q → P) → Decides b Q
decides_with b d f g = (λ e. f (d.0 e), λ q. d.1 (g q))

decides_and : {P Q : Type 0} (a b : Bool) → Decides a P → Decides b Q → Decides (and a b) (P × Q)
unfolding and
decides_and true b d e = (λ x. (d.0 refl, e.0 x), λ x. e.1 x.1)
decides_and false b d e = (λ x. absurd (false≢true x), λ x. d.1 x.0)

decides_and3 : {P Q R : Type 0} (a b c : Bool) → Decides a P → Decides b Q → Decides c R → Decides (and a (and b c)) (P × Q × R)
decides_and3 a b c d e f =
    decides_with (and a (and b c)) (decides_and a (and b c) d (decides_and b c e f)) (λ h. (h.0, h.1.0, h.1.1)) (λ h. (h.0, (h.1, h.2)))

decides_and4 : {P Q R S : Type 0} (a b c x : Bool) → Decides a P → Decides b Q → Decides c R → Decides x S → Decides (and a (and b (and c x))) (P × Q × R × S)
decides_and4 a b c x d e f g =
    decides_with (and a (and b (and c x))) (decides_and a (and b (and c x)) d (decides_and3 b c x e f g)) (λ h. (h.0, h.1.0, h.1.1, h.1.2)) (λ h. (h.0, (h.1, h.2, h.3)))

decides_or : {P Q : Type 0} (a b : Bool) → Decides a P → Decides b Q → Decides (or a b) (P ⊎ Q)
unfolding or
decides_or true b d e = (λ x. inl (d.0 refl), λ x. refl)
decides_or false b d e = (λ x. inr (e.0 x), λ x. elim x [ inl p ↦ absurd (false≢true (d.1 p)) | inr q ↦ e.1 q ])

decides_not : {P : Type 0} (a : Bool) → Decides a P → Decides (not a) (P → ⊥)
decides_not true d = (λ x. absurd (false≢true x), λ f. absurd (f (d.0 refl)))
decides_not false d = (λ x p. false≢true (d.1 p), λ f. refl)

-- if .. then, of something that is decided
decides_if : {P Q : Type 0} (a b : Bool) → Decides a P → Decides b Q → Decides (or (not a) b) (P → Q)
unfolding or
decides_if true b d e = (λ x p. e.0 x, λ f. e.1 (f (d.0 refl)))
decides_if false b d e = (λ x p. absurd (false≢true (d.1 p)), λ f. refl)

decides_eqb : (m n : ℕ) → Decides (eqb m n) (m ≡ n)
decides_eqb m n =
    elim (eqb_cases m n) [
      | inl p ↦ (λ e. p.1, λ e. p.0)
      | inr p ↦ (λ e. absurd (false≢true (sym p.0 ∙ e)), λ e. absurd (p.1 e))
    ]

decides_leb : (m n : ℕ) → Decides (leb m n) (m ≤ n)
decides_leb m n =
    elim (leb_cases m n) [
      | inl p ↦ (λ e. p.1, λ e. p.0)
      | inr p ↦ (λ e. absurd (false≢true (sym p.0 ∙ e)), λ e. absurd (let z = p.1 in omega (arith, z, e)))
    ]

decides_ltb : (m n : ℕ) → Decides (ltb m n) (m < n)
decides_ltb m n =
    elim (ltb_cases m n) [
      | inl p ↦ (λ e. p.1, λ e. p.0)
      | inr p ↦ (λ e. absurd (false≢true (sym p.0 ∙ e)), λ e. absurd (let z = p.1 in omega (arith, z, e)))
    ]

decides_below : {P : ℕ → Type 0} (f : ℕ → Bool) → ((x : ℕ) → Decides (f x) (P x)) → (n : ℕ) → Decides (each_below f n) ((x : ℕ) → x < n → P x)
unfolding each_below
decides_below f d zero = (λ e x l. absurd (omega (arith, l)), λ h. refl)
decides_below {P} f d (suc n) =
    decides_with (and (f n) (each_below f n)) (decides_and (f n) (each_below f n) (d n) (decides_below f d n))
    (λ h x l. elim (eqb_cases x n) [ inl p ↦ subst P (sym p.1) h.0 | inr p ↦ (let z = p.1 in h.1 x (omega (arith, z, l))) ])
    (λ h. (h n (omega arith), λ x l. h x (omega (arith, l))))

decides_some : {P : ℕ → Type 0} (f : ℕ → Bool) → ((x : ℕ) → Decides (f x) (P x)) → (n : ℕ) → Decides (some_below f n) ((x : ℕ) × (x < n) × P x)
unfolding some_below
decides_some f d zero = (λ e. absurd (false≢true e), λ h. absurd (let l = h.1 in omega (arith, l)))
decides_some {P} f d (suc n) =
    decides_with (or (f n) (some_below f n)) (decides_or (f n) (some_below f n) (d n) (decides_some f d n))
    (λ h. elim h [ inl p ↦ (n, omega arith, p) | inr p ↦ (let l = p.1 in (p.0, omega (arith, l), p.2)) ])
    (λ h. elim (eqb_cases h.0 n) [ inl p ↦ inl (subst P p.1 h.2) | inr p ↦ (let z = p.1 in let l = h.1 in inr (h.0, omega (arith, z, l), h.2)) ])

decides_each : {P : ℕ → Type 0} (f : ℕ → Bool) → ((x : ℕ) → Decides (f x) (P x)) → (xs : List ℕ) → Decides (each_of f xs) (All P xs)
unfolding each_of
decides_each f d [] = (λ e. tt, λ h. refl)
decides_each f d (x ∷ xs) = decides_and (f x) (each_of f xs) (d x) (decides_each f d xs)

decides_frames : {P : ℕ → Frame → Type 0} (f : ℕ → Frame → Bool) → ((i : ℕ) (g : Frame) → Decides (f i g) (P i g)) → (fs : List Frame) →
    Decides (each_frame f fs) ((i : ℕ) → i < length fs → P i (nth_frame i fs))
unfolding each_frame
decides_frames f d [] = (λ e i l. absurd (omega (arith, l)), λ h. refl)
decides_frames {P} f d (g ∷ fs) =
    decides_with (and (f (length fs) g) (each_frame f fs)) (decides_and (f (length fs) g) (each_frame f fs) (d (length fs) g) (decides_frames f d fs))
    (λ h i l.
    elim (eqb_cases i (length fs)) [
      | inl p ↦ subst (λ (z : Frame). P i z) (sym (frame_here i g fs p.1)) (subst (λ (z : ℕ). P z g) (sym p.1) h.0)
      | inr p ↦ (let z = p.1 in subst (λ (y : Frame). P i y) (sym (frame_past i g fs p.1)) (h.1 i (omega (arith, z, l))))
    ])
    (λ h. (
      subst (λ (z : Frame). P (length fs) z) (frame_here (length fs) g fs refl) (h (length fs) (omega arith)),
      λ i l. subst (λ (z : Frame). P i z) (frame_past i g fs (λ e. omega (arith, e, l))) (h i (omega (arith, l))),
    ))

decides_unit : Decides true (Unit {0})
decides_unit = (λ e. tt, λ h. refl)

decides_void : Decides false ⊥
decides_void = (λ e. false≢true e, λ h. absurd h)

-- STEPS

decides_is_some : (ss : List Step) → Decides (is_some ss) (Some ss)
unfolding is_some
decides_is_some [] = decides_void
decides_is_some (s ∷ ss) = decides_unit

decides_in_group : (ss : List Step) → Decides (in_group ss) (InGroup ss)
unfolding in_group
decides_in_group [] = decides_void
decides_in_group (Step.visit i ∷ ss) = decides_in_group ss
decides_in_group (Step.fork i ∷ ss) = decides_in_group ss
decides_in_group (Step.join c ∷ ss) = decides_unit
decides_in_group (Step.whole ∷ ss) = decides_void

decides_at_join : (ss : List Step) → Decides (at_join ss) (AtJoin ss)
unfolding at_join
decides_at_join [] = decides_void
decides_at_join (Step.visit i ∷ ss) = decides_void
decides_at_join (Step.fork i ∷ ss) = decides_void
decides_at_join (Step.join c ∷ ss) = decides_unit
decides_at_join (Step.whole ∷ ss) = decides_void

decides_unnamed : (x : ℕ) (ss : List Step) → Decides (unnamed x ss) (Unnamed x ss)
unfolding unnamed
decides_unnamed x [] = decides_unit
decides_unnamed x (Step.visit i ∷ ss) = decides_and (not (eqb x i)) (unnamed x ss) (decides_not (eqb x i) (decides_eqb x i)) (decides_unnamed x ss)
decides_unnamed x (Step.fork i ∷ ss) = decides_and (not (eqb x i)) (unnamed x ss) (decides_not (eqb x i) (decides_eqb x i)) (decides_unnamed x ss)
decides_unnamed x (Step.join c ∷ ss) = decides_unnamed x ss
decides_unnamed x (Step.whole ∷ ss) = decides_unnamed x ss

decides_same : (xs ys : List ℕ) → Decides (same xs ys) (xs ≡ ys)
unfolding same
decides_same [] [] = (λ e. refl, λ e. refl)
decides_same [] (y ∷ ys) = (λ e. absurd (false≢true e), λ e. absurd (let z = ap length e in omega (arith, z)))
decides_same (x ∷ xs) [] = (λ e. absurd (false≢true e), λ e. absurd (let z = ap length e in omega (arith, z)))
decides_same (x ∷ xs) (y ∷ ys) =
    elim (eqb_cases x y) [
      | inl p ↦ rw (p.0, same) (λ e. ap₂ (λ (z : ℕ) (zs : List ℕ). z ∷ zs) p.1 ((decides_same xs ys).0 e), λ e. (decides_same xs ys).1 (let q : xs ≡ ys = cc in q))
      | inr p ↦ rw (p.0, same) (λ e. absurd (false≢true e), λ e. absurd (p.1 (let q : x ≡ y = cc in q)))
    ]

module _ (B : Book) (s : FlatState) where
  abbrev xs : List ℕ
  xs = s.symbols

  abbrev left : ℕ → ℕ → List Step
  left a k = drop k (steps B (get_or xs a 0))

  -- A FRAME BY ITSELF

  decides_job : (a k c : ℕ) → Decides (job_good B s a k c) (Job B xs a k c)
  unfolding job_good
  decides_job a zero c = decides_and (ltb a (length xs)) (eqb c 0) (decides_ltb a (length xs)) (decides_eqb c 0)
  decides_job a (suc k) c =
      let n : ℕ = next_count (left a k) in
      let g : Bool = or (in_group (left a k)) (eqb c n) in
      decides_and4 (ltb a (length xs)) (is_some (left a k)) (leb c n) g (decides_ltb a (length xs)) (decides_is_some (left a k)) (decides_leb c n)
      (decides_or (in_group (left a k)) (eqb c n) (decides_in_group (left a k)) (decides_eqb c n))

  abbrev ExitRule : ℕ → ℕ → ℕ → Type 0
  ExitRule v w i = (w ≢ v) × (i < length (stack s w)) × InGroup (steps_left B xs (frame s w i))

  decides_exit : (v w i : ℕ) → Decides (exit_good B s v w i) (ExitRule v w i)
  unfolding exit_good
  decides_exit v w i =
      let ss : List Step = steps_left B xs (frame s w i) in
      decides_and3 (not (eqb w v)) (ltb i (length (stack s w))) (in_group ss) (decides_not (eqb w v) (decides_eqb w v)) (decides_ltb i (length (stack s w))) (decides_in_group ss)

  abbrev CountRule : ℕ → ℕ → ℕ → ℕ → ℕ → Type 0
  CountRule u i a k c =
      InGroup (steps_left B xs (Frame.job a k c)) → c ≡ forks_left (steps_left B xs (Frame.job a k c)) + upto (λ v. exits_to u i (stack s v)) (length s.units)

  decides_count : (u i a k c : ℕ) → Decides (count_good B s u i a k c) (CountRule u i a k c)
  unfolding count_good
  decides_count u i a k c =
      let ss : List Step = steps_left B xs (Frame.job a k c) in
      decides_if (in_group ss) (eqb c (forks_left ss + awaited B s u i)) (decides_in_group ss) (decides_eqb c (forks_left ss + awaited B s u i))

  abbrev RoomRule : ℕ → ℕ → ℕ → ℕ → Type 0
  RoomRule u i a zero = Unit {0}
  RoomRule u i a (suc k) =
      named (left a k) + jobs (frame s u (suc i) ∷ []) + upto (λ v. exits_to u i (stack s v)) (length s.units) ≤ arity B (get_or xs a 0)

  decides_room : (u i a k : ℕ) → Decides (room_good B s u i a k) (RoomRule u i a k)
  unfolding room_good
  decides_room u i a zero = decides_unit
  decides_room u i a (suc k) = decides_leb (named (left a k) + jobs (frame s u (suc i) ∷ []) + awaited B s u i) (arity B (get_or xs a 0))

  abbrev FrameRule : ℕ → ℕ → Frame → Type 0
  FrameRule v i (Frame.job a k c) = Job B xs a k c × CountRule v i a k c × RoomRule v i a k
  FrameRule v i (Frame.exit w j) = ExitRule v w j
  FrameRule v i Frame.sleep = Unit {0}
  FrameRule v i Frame.bingo = Unit {0}

  decides_frame : (v i : ℕ) (f : Frame) → Decides (frame_good B s v i f) (FrameRule v i f)
  unfolding frame_good
  decides_frame v i (Frame.job a k c) =
      decides_and3 (job_good B s a k c) (count_good B s v i a k c) (room_good B s v i a k) (decides_job a k c) (decides_count v i a k c) (decides_room v i a k)
  decides_frame v i (Frame.exit w j) = decides_exit v w j
  decides_frame v i Frame.sleep = decides_unit
  decides_frame v i Frame.bingo = decides_unit

  -- A FRAME AND THE ONE BELOW IT

  decides_taken : (f : Frame) (a : ℕ) → Decides (taken B s f a) (Taken B xs f a)
  unfolding taken
  decides_taken (Frame.job b zero c) a = decides_void
  decides_taken (Frame.job b (suc k) c) a =
      let f : ℕ → Bool = λ x. and (eqb a (argument (arity B) xs b x)) (unnamed x (left b k)) in
      decides_with (some_below f (arity B (get_or xs b 0)))
      (decides_some f
      (λ x. decides_and (eqb a (argument (arity B) xs b x)) (unnamed x (left b k)) (decides_eqb a (argument (arity B) xs b x)) (decides_unnamed x (left b k))) (arity B (get_or xs b 0)))
      (λ h. (h.0, h.1, h.2.0, h.2.1)) (λ h. (h.0, h.1, (h.2, h.3)))
  decides_taken (Frame.exit w i) a = decides_void
  decides_taken Frame.sleep a = decides_void
  decides_taken Frame.bingo a = decides_void

  decides_carries : (a : ℕ) (fs : List Frame) → Decides (carries B s a fs) (Carries B xs (frame s) a fs)
  unfolding carries
  decides_carries a [] = decides_void
  decides_carries a (Frame.job b k c ∷ fs) = decides_taken (Frame.job b k c) a
  decides_carries a (Frame.exit w i ∷ fs) = decides_taken (frame s w i) a
  decides_carries a (Frame.sleep ∷ fs) = decides_void
  decides_carries a (Frame.bingo ∷ fs) = decides_eqb a 0

  decides_holds : (fs : List Frame) → Decides (holds B s fs) (Holds B xs fs)
  unfolding holds
  decides_holds [] = decides_void
  decides_holds (Frame.job a zero c ∷ fs) = decides_void
  decides_holds (Frame.job a (suc k) c ∷ fs) =
      decides_and (at_join (left a k)) (leb 1 (next_count (left a k))) (decides_at_join (left a k)) (decides_leb 1 (next_count (left a k)))
  decides_holds (Frame.exit w i ∷ fs) = decides_void
  decides_holds (Frame.sleep ∷ fs) = decides_unit
  decides_holds (Frame.bingo ∷ fs) = decides_void

  decides_none : (fs : List Frame) → Decides (eqb (length fs) 0) (fs ≡ [])
  decides_none [] = decides_with (eqb 0 0) (decides_eqb 0 0) (λ e. refl) (λ e. refl)
  decides_none (f ∷ fs) =
      decides_with (eqb (suc (length fs)) 0) (decides_eqb (suc (length fs)) 0) (λ e. absurd (omega (arith, e))) (λ e. absurd (let z = ap length e in omega (arith, z)))

  decides_stack : (v : ℕ) (fs : List Frame) → Decides (stack_good B s v fs) (Stacked B xs (frame s) v fs)
  unfolding stack_good
  decides_stack v [] = decides_void
  decides_stack v (Frame.job a k c ∷ fs) = decides_and (carries B s a fs) (stack_good B s v fs) (decides_carries a fs) (decides_stack v fs)
  decides_stack v (Frame.exit w i ∷ fs) = decides_and (holds B s fs) (stack_good B s v fs) (decides_holds fs) (decides_stack v fs)
  decides_stack v (Frame.sleep ∷ fs) = decides_and (eqb (length fs) 0) (leb 1 v) (decides_none fs) (decides_leb 1 v)
  decides_stack v (Frame.bingo ∷ fs) = decides_and (eqb (length fs) 0) (eqb v 0) (decides_none fs) (decides_eqb v 0)

  -- A UNIT

  decides_waits : (fs : List Frame) → Decides (waits B s fs) (Waits B xs fs)
  unfolding waits
  decides_waits [] = decides_void
  decides_waits (Frame.job a zero c ∷ fs) = decides_void
  decides_waits (Frame.job a (suc k) c ∷ fs) = decides_and (at_join (left a k)) (ltb 0 c) (decides_at_join (left a k)) (decides_ltb 0 c)
  decides_waits (Frame.exit w i ∷ fs) = decides_void
  decides_waits (Frame.sleep ∷ fs) = decides_unit
  decides_waits (Frame.bingo ∷ fs) = decides_void

  abbrev rank : ℕ → ℕ
  rank v = (unit s.units v).rank

  abbrev RankRule : ℕ → Type 0
  RankRule v = (rank v ≤ idle_count s.units) × (1 ≤ rank v → Waits B xs (stack s v))

  decides_rank : (v : ℕ) → Decides (rank_good B s v) (RankRule v)
  unfolding rank_good
  decides_rank v =
      decides_and (leb (rank v) (idle_count s.units)) (or (eqb (rank v) 0) (waits B s (stack s v))) (decides_leb (rank v) (idle_count s.units))
      (decides_with (or (eqb (rank v) 0) (waits B s (stack s v))) (decides_or (eqb (rank v) 0) (waits B s (stack s v)) (decides_eqb (rank v) 0) (decides_waits (stack s v)))
      (λ h l. elim h [ inl e ↦ absurd (omega (arith, e, l)) | inr w ↦ w ])
      (λ h. zero_or (rank v) h))
    where
      zero_or : (r : ℕ) → (1 ≤ r → Waits B xs (stack s v)) → (r ≡ 0) ⊎ Waits B xs (stack s v)
      zero_or zero h = inl refl
      zero_or (suc r) h = inr (h (omega arith))

  abbrev UnitRule : ℕ → Type 0
  UnitRule v =
      Stacked B xs (frame s) v (stack s v) × ((i : ℕ) → i < length (stack s v) → FrameRule v i (frame s v i))
      × (exits_in (stack s v) ≡ times v s.placed) × RankRule v

  decides_unit_good : (v : ℕ) → Decides (unit_good B s v) (UnitRule v)
  unfolding unit_good
  decides_unit_good v =
      let a : Bool = stack_good B s v (stack s v) in
      let b : Bool = each_frame (frame_good B s v) (stack s v) in
      let c : Bool = eqb (exits_in (stack s v)) (times v s.placed) in
      decides_and4 a b c (rank_good B s v) (decides_stack v (stack s v)) (decides_frames (frame_good B s v) (decides_frame v) (stack s v))
      (decides_eqb (exits_in (stack s v)) (times v s.placed)) (decides_rank v)

  -- THE ORDER OF PLACING

  abbrev PartRule : List ℕ → ℕ → ℕ → Frame → Type 0
  PartRule later v j (Frame.job a k c) = Unit {0}
  PartRule later v j (Frame.exit w i) = exits_in (above j (stack s v)) ≡ times v later → times w (v ∷ later) ≤ exits_in (above i (stack s w))
  PartRule later v j Frame.sleep = Unit {0}
  PartRule later v j Frame.bingo = Unit {0}

  decides_part : (later : List ℕ) (v j : ℕ) (f : Frame) → Decides (part_good B s later v j f) (PartRule later v j f)
  unfolding part_good
  decides_part later v j (Frame.job a k c) = decides_unit
  decides_part later v j (Frame.exit w i) =
      decides_if (eqb (exits_in (above j (stack s v))) (times v later)) (leb (times w (v ∷ later)) (exits_in (above i (stack s w))))
      (decides_eqb (exits_in (above j (stack s v))) (times v later)) (decides_leb (times w (v ∷ later)) (exits_in (above i (stack s w))))
  decides_part later v j Frame.sleep = decides_unit
  decides_part later v j Frame.bingo = decides_unit

  -- each part of some units of the order, those placed later than all of them being given
  abbrev OrderRule : List ℕ → List ℕ → Type 0
  OrderRule later vs = (more : List ℕ) (v : ℕ) (before : List ℕ) → vs ≡ more ++ (v ∷ before) → (j : ℕ) → j < length (stack s v) → PartRule (later ++ more) v j (frame s v j)

  decides_order : (later vs : List ℕ) → Decides (order_good B s later vs) (OrderRule later vs)
  unfolding order_good
  decides_order later [] = (λ e more v before q. absurd (none v before more q), λ h. refl)
    where
      none : (v : ℕ) (before more : List ℕ) → [] ≡ more ++ (v ∷ before) → ⊥
      none v before [] q = let z = ap length q in omega (arith, z)
      none v before (x ∷ more) q = let z = ap length q in omega (arith, z)
  decides_order later (u ∷ vs) =
      decides_with (and (each_frame (part_good B s later u) (stack s u)) (order_good B s (later ++ (u ∷ [])) vs))
      (decides_and (each_frame (part_good B s later u) (stack s u)) (order_good B s (later ++ (u ∷ [])) vs)
      (decides_frames (part_good B s later u) (decides_part later u) (stack s u)) (decides_order (later ++ (u ∷ [])) vs))
      (λ h. first h) (λ h. back h)
    where
      first : ((j : ℕ) → j < length (stack s u) → PartRule later u j (frame s u j)) × OrderRule (later ++ (u ∷ [])) vs → OrderRule later (u ∷ vs)
      first h [] v before q j l =
          let e : u ≡ v = cc in
          subst (λ (z : List ℕ). PartRule z v j (frame s v j)) (sym (append-nil later))
          (subst (λ (z : ℕ). PartRule later z j (frame s z j)) e (h.0 j (subst (λ (z : ℕ). j < length (stack s z)) (sym e) l)))
      first h (x ∷ more) v before q j l =
          let e : u ≡ x = cc in
          let r : vs ≡ more ++ (v ∷ before) = cc in
          subst (λ (z : List ℕ). PartRule z v j (frame s v j)) (append_assoc later (u ∷ []) more ∙ ap (λ (z : ℕ). later ++ (z ∷ more)) e)
          (h.1 more v before r j l)

      back : OrderRule later (u ∷ vs) → ((j : ℕ) → j < length (stack s u) → PartRule later u j (frame s u j)) × OrderRule (later ++ (u ∷ [])) vs
      back h = (
        λ j l. subst (λ (z : List ℕ). PartRule z u j (frame s u j)) (append-nil later) (h [] u vs refl j l),
        λ more v before q j l. subst (λ (z : List ℕ). PartRule z v j (frame s v j)) (sym (append_assoc later (u ∷ []) more)) (h (u ∷ more) v before (ap (λ (z : List ℕ). u ∷ z) q) j l),
      )

-- THE WHOLE TEST

decides_false : (b : Bool) → Decides (not b) (b ≡ false)
decides_false true = (λ e. absurd (false≢true e), λ e. absurd (true≢false e))
decides_false false = (λ e. refl, λ e. refl)

in_index : (f : Frame) (fs : List Frame) → In f fs → (j : ℕ) × (j < length fs) × (nth_frame j fs ≡ f)
in_index f [] h = absurd h
in_index f (g ∷ fs) (inl e) = (length fs, omega arith, frame_here (length fs) g fs refl ∙ sym e)
in_index f (g ∷ fs) (inr h) =
    let (j, l, e) = in_index f fs h in (j, omega (arith, l), frame_past j g fs (λ z. omega (arith, z, l)) ∙ e)

index_in : (fs : List Frame) (j : ℕ) (f : Frame) → j < length fs → nth_frame j fs ≡ f → In f fs
index_in [] j f l e = absurd (omega (arith, l))
index_in (g ∷ fs) j f l e =
    elim (eqb_cases j (length fs)) [
      | inl p ↦ inl (sym e ∙ frame_here j g fs p.1)
      | inr p ↦ (let z = p.1 in inr (index_in fs j f (omega (arith, z, l)) (sym (frame_past j g fs p.1) ∙ e)))
    ]

jobs_none_at : (x : ℕ) (fs : List Frame) → ((a k c : ℕ) → In (Frame.job a k c) fs → a < x) → jobs_at x fs ≡ 0
unfolding jobs_at
jobs_none_at x [] h = refl
jobs_none_at x (Frame.job a k c ∷ fs) h =
    let l = h a k c (inl refl) in
    rw (eqb_false a x (λ e. omega (arith, e, l)), jobs_at) (jobs_none_at x fs (λ a k c m. h a k c (inr m)))
jobs_none_at x (Frame.exit w i ∷ fs) h = jobs_none_at x fs (λ a k c m. h a k c (inr m))
jobs_none_at x (Frame.sleep ∷ fs) h = jobs_none_at x fs (λ a k c m. h a k c (inr m))
jobs_none_at x (Frame.bingo ∷ fs) h = jobs_none_at x fs (λ a k c m. h a k c (inr m))

-- a sum of which nothing counts from some number on
upto_cut : (f : ℕ → ℕ) (m n : ℕ) → ((v : ℕ) → m ≤ v → f v ≡ 0) → upto f n ≤ upto f m
unfolding upto
upto_cut f m zero h = omega arith
upto_cut f m (suc n) h =
    elim (ltb_cases n m) [
      | inl p ↦ omega (arith, upto_later f n m p.1)
      | inr p ↦ (let l = p.1 in omega (arith, h n l, upto_cut f m n h))
    ]

asleep_beyond : (us : List FlatUnit) (v : ℕ) → length us ≤ v → (unit us v).stack ≡ Frame.sleep ∷ []
asleep_beyond [] v l = refl
asleep_beyond (x ∷ us) zero l = absurd (omega (arith, l))
asleep_beyond (x ∷ us) (suc v) l = asleep_beyond us v (omega (arith, l))

none_placed : (v n : ℕ) (vs : List ℕ) → All (λ u. u < n) vs → n ≤ v → times v vs ≡ 0
unfolding times
none_placed v n [] h l = refl
none_placed v n (u ∷ vs) h l = let a = h.0 in times_past v u vs (λ e. omega (arith, e, a, l)) ∙ none_placed v n vs h.1 l

times_in : (v : ℕ) (vs : List ℕ) → In v vs → 1 ≤ times v vs
unfolding times
times_in v [] h = absurd h
times_in v (u ∷ vs) (inl e) = omega (arith, times_here v u vs e)
times_in v (u ∷ vs) (inr h) =
    let a = times_in v vs h in
    elim (eqb_cases v u) [ inl p ↦ omega (arith, times_here v u vs p.1) | inr p ↦ omega (arith, a, times_past v u vs p.1) ]

all_of : (P : ℕ → Type 0) (vs : List ℕ) → ((v : ℕ) → In v vs → P v) → All P vs
all_of P [] h = tt
all_of P (v ∷ vs) h = (h v (inl refl), all_of P vs (λ u m. h u (inr m)))

module _ (B : Book) (L : Limits) (s : FlatState) where
  abbrev units : ℕ
  units = length s.units

  -- the rules as they are tried
  pub record Tried : Type 0 where
    pub complete : spells (arity B) 1 s.symbols ≡ true
    pub short : exceeds L.symbols (length s.symbols) ≡ false
    pub sizes : s.sizes ≡ sizes (arity B) s.symbols
    pub marks : length s.marks ≡ length s.symbols
    pub within : s.rewrites ≤ L.budget
    pub some_unit : 1 ≤ units
    pub distinct : (x : ℕ) → x < length s.symbols → upto (λ v. jobs_at x (stack s v)) units ≤ 1
    pub each_unit : (v : ℕ) → v < units → UnitRule B s v
    pub all_units : All (λ v. v < units) s.placed
    pub order : OrderRule B s [] s.placed
    pub ranks : (r : ℕ) → r < idle_count s.units → of_rank (suc r) s.units ≡ 1

  decides_tried : Decides (tested B L s) Tried
  unfolding tested
  decides_tried =
      let b₁ : Bool = spells (arity B) 1 s.symbols in
      let b₂ : Bool = not (exceeds L.symbols (length s.symbols)) in
      let b₃ : Bool = same s.sizes (sizes (arity B) s.symbols) in
      let b₄ : Bool = eqb (length s.marks) (length s.symbols) in
      let b₅ : Bool = leb s.rewrites L.budget in
      let b₆ : Bool = leb 1 units in
      let b₇ : Bool = each_below (λ x. leb (upto (λ v. jobs_at x (stack s v)) units) 1) (length s.symbols) in
      let b₈ : Bool = each_below (unit_good B s) units in
      let b₉ : Bool = each_of (λ v. ltb v units) s.placed in
      let c₁ : Bool = order_good B s [] s.placed in
      let c₂ : Bool = each_below (λ r. eqb (of_rank (suc r) s.units) 1) (idle_count s.units) in
      let r₈ : Bool = and b₈ (and b₉ (and c₁ c₂)) in
      let r₄ : Bool = and b₄ (and b₅ (and b₆ (and b₇ r₈))) in
      decides_with (and b₁ (and b₂ (and b₃ r₄)))
      (decides_and4 b₁ b₂ b₃ r₄ (λ e. e, λ e. e) (decides_false (exceeds L.symbols (length s.symbols))) (decides_same s.sizes (sizes (arity B) s.symbols))
      (decides_and b₄ (and b₅ (and b₆ (and b₇ r₈))) (decides_eqb (length s.marks) (length s.symbols))
      (decides_and4 b₅ b₆ b₇ r₈ (decides_leb s.rewrites L.budget) (decides_leb 1 units)
      (decides_below (λ x. leb (upto (λ v. jobs_at x (stack s v)) units) 1) (λ x. decides_leb (upto (λ v. jobs_at x (stack s v)) units) 1) (length s.symbols))
      (decides_and4 b₈ b₉ c₁ c₂ (decides_below (unit_good B s) (decides_unit_good B s) units) (decides_each (λ v. ltb v units) (λ v. decides_ltb v units) s.placed)
      (decides_order B s [] s.placed)
      (decides_below (λ r. eqb (of_rank (suc r) s.units) 1) (λ r. decides_eqb (of_rank (suc r) s.units) 1) (idle_count s.units))))))
      (λ h. record {
        complete = h.0;
        short = h.1;
        sizes = h.2;
        marks = h.3.0;
        within = h.3.1.0;
        some_unit = h.3.1.1;
        distinct = h.3.1.2;
        each_unit = h.3.1.3.0;
        all_units = h.3.1.3.1;
        order = h.3.1.3.2;
        ranks = h.3.1.3.3;
      })
      (λ h. (h.complete, h.short, h.sizes, (h.marks, (h.within, h.some_unit, h.distinct, (h.each_unit, h.all_units, h.order, h.ranks)))))

  -- FROM WHAT IS TRIED

  module _ (h : Tried) where
    beyond : (v : ℕ) → units ≤ v → stack s v ≡ Frame.sleep ∷ []
    beyond v l = asleep_beyond s.units v l

    -- a frame that is neither SLEEP nor BINGO is of one of the units
    inside : (v j : ℕ) (f : Frame) → j < length (stack s v) → frame s v j ≡ f → f ≢ Frame.sleep → v < units
    inside v j f l e ne =
        elim (ltb_cases v units) [
          | inl p ↦ p.1
          | inr p ↦
              absurd (
              let q = beyond v p.1 in
              let l₂ : j < length (Frame.sleep ∷ []) = subst (λ (z : List Frame). j < length z) q l in
              ne (sym e ∙ ap (nth_frame j) q ∙ frame_here j Frame.sleep [] (omega (arith, l₂)))
              )
        ]

    rule_at : (v j : ℕ) (f : Frame) → j < length (stack s v) → frame s v j ≡ f → f ≢ Frame.sleep → FrameRule B s v j f
    rule_at v j f l e ne = subst (λ (z : Frame). FrameRule B s v j z) e ((h.each_unit v (inside v j f l e ne)).1 j l)

    not_job : (a k c : ℕ) → Frame.job a k c ≢ Frame.sleep
    not_job a k c e = let z : ◌≡◌ {A = ℕ} 0 1 = cc in omega arith

    not_exit : (w i : ℕ) → Frame.exit w i ≢ Frame.sleep
    not_exit w i e = let z : ◌≡◌ {A = ℕ} 0 1 = cc in omega arith

    job_rule : (v a k c : ℕ) → In (Frame.job a k c) (stack s v) → Job B s.symbols a k c
    job_rule v a k c m = let (j, l, e) = in_index (Frame.job a k c) (stack s v) m in (rule_at v j (Frame.job a k c) l e (not_job a k c)).0

    job_low : (a k c : ℕ) → Job B s.symbols a k c → a < length s.symbols
    job_low a zero c j = j.0
    job_low a (suc k) c j = j.0

    distinct_all : (x n : ℕ) → upto (λ v. jobs_at x (stack s v)) n ≤ 1
    unfolding jobs_at
    distinct_all x n =
        let cut = upto_cut (λ v. jobs_at x (stack s v)) units n (λ v l. ap (jobs_at x) (beyond v l)) in
        elim (ltb_cases x (length s.symbols)) [
          | inl p ↦ (let a = h.distinct x p.1 in omega (arith, cut, a))
          | inr p ↦
              (let g = p.1 in
              let z = upto_zero (λ v. jobs_at x (stack s v)) units
              (λ v. jobs_none_at x (stack s v) (λ a k c m. (let l = job_low a k c (job_rule v a k c m) in omega (arith, l, g)))) in
              omega (arith, cut, z))
        ]

    exit_rule : (v w i : ℕ) → In (Frame.exit w i) (stack s v) → ExitRule B s v w i
    exit_rule v w i m = let (j, l, e) = in_index (Frame.exit w i) (stack s v) m in rule_at v j (Frame.exit w i) l e (not_exit w i)

    placing : Placing s
    unfolding exits_in
    placing = record {
      many = λ v.
          elim (ltb_cases v units) [
            | inl p ↦ (h.each_unit v p.1).2
            | inr p ↦ ap exits_in (beyond v p.1) ∙ sym (none_placed v units s.placed h.all_units p.1)
          ];
      earlier = λ later v before j w i e l f k. subst (λ (z : Frame). PartRule B s later v j z) f (h.order later v before e j l) k;
    }

    meets : Meets B L s
    meets = record {
      complete = h.complete;
      short = h.short;
      sizes = h.sizes;
      marks = h.marks;
      within = h.within;
      some_unit = h.some_unit;
      job = job_rule;
      distinct = distinct_all;
      stacks = λ v l. (h.each_unit v l).0;
      exits = exit_rule;
      counts = λ u i a k c l e g. (rule_at u i (Frame.job a k c) l e (not_job a k c)).1 g;
      room = λ u i a k c l e. (rule_at u i (Frame.job a (suc k) c) l e (not_job a (suc k) c)).2;
      placing = placing;
      ranked = λ v l. (h.each_unit v l).3.0;
      once = λ r l k. ranked_once r l k;
      idle = λ v l.
          elim (ltb_cases v units) [
            | inl p ↦ (h.each_unit v p.1).3.1 l
            | inr p ↦ subst (λ (z : List Frame). Waits B s.symbols z) (sym (beyond v p.1)) tt
          ];
    }
      where
        ranked_once : (r : ℕ) → 1 ≤ r → r ≤ idle_count s.units → of_rank r s.units ≡ 1
        ranked_once zero l k = absurd (omega (arith, l))
        ranked_once (suc r) l k = h.ranks r (omega (arith, k))

  -- AND BACK

  module _ (m : Meets B L s) where
    frame_rule : (v i : ℕ) (f : Frame) → i < length (stack s v) → frame s v i ≡ f → FrameRule B s v i f
    frame_rule v i (Frame.job a zero c) l e =
        (m.job v a zero c (index_in (stack s v) i (Frame.job a zero c) l e), λ g. m.counts v i a zero c l e g, tt)
    frame_rule v i (Frame.job a (suc k) c) l e =
        (m.job v a (suc k) c (index_in (stack s v) i (Frame.job a (suc k) c) l e), λ g. m.counts v i a (suc k) c l e g, m.room v i a k c l e)
    frame_rule v i (Frame.exit w j) l e = m.exits v w j (index_in (stack s v) i (Frame.exit w j) l e)
    frame_rule v i Frame.sleep l e = tt
    frame_rule v i Frame.bingo l e = tt

    part_rule : (later : List ℕ) (v : ℕ) (before : List ℕ) → s.placed ≡ later ++ (v ∷ before) → (j : ℕ) → j < length (stack s v) → (f : Frame) → frame s v j ≡ f →
        PartRule B s later v j f
    part_rule later v before q j l (Frame.job a k c) e = tt
    part_rule later v before q j l (Frame.exit w i) e = λ k. m.placing.earlier later v before j w i q l e k
    part_rule later v before q j l Frame.sleep e = tt
    part_rule later v before q j l Frame.bingo e = tt

    placed_units : (v : ℕ) → In v s.placed → v < units
    unfolding exits_in
    placed_units v h =
        elim (ltb_cases v units) [
          | inl p ↦ p.1
          | inr p ↦
              absurd (
              let a = m.placing.many v in
              let b = ap exits_in (asleep_beyond s.units v p.1) in
              let c = times_in v s.placed h in omega (arith, a, b, c)
              )
        ]

    pub tried : Tried
    tried = record {
      complete = m.complete;
      short = m.short;
      sizes = m.sizes;
      marks = m.marks;
      within = m.within;
      some_unit = m.some_unit;
      distinct = λ x l. m.distinct x units;
      each_unit = λ v l. (m.stacks v l, λ i k. frame_rule v i (frame s v i) k refl, m.placing.many v, (m.ranked v l, m.idle v));
      all_units = all_of (λ v. v < units) s.placed placed_units;
      order = λ more v before q j l. part_rule more v before q j l (frame s v j) refl;
      ranks = λ r l. m.once (suc r) (omega arith) (omega (arith, l));
    }

  -- THE TEST IS TRUE EXACTLY IF THE RULES ARE MET
  pub tested_meets : Decides (tested B L s) (Meets B L s)
  tested_meets = decides_with (tested B L s) decides_tried meets tried

  pub point_tested_rules : Decides (point_tested B L s) (PointRules B L s)
  unfolding point_tested
  point_tested_rules =
      let a : Bool = each_of (λ o. ltb o (length B.operators)) s.symbols in
      decides_with (and (tested B L s) (and a (leb units 8)))
      (decides_and3 (tested B L s) a (leb units 8) tested_meets
      (decides_each (λ o. ltb o (length B.operators)) (λ o. decides_ltb o (length B.operators)) s.symbols) (decides_leb units 8))
      (λ h. record { meets = h.0; known = h.1; few_units = h.2 }) (λ h. (h.meets, h.known, h.few_units))
