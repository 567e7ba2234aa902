-- The rules of a saved point as a test (document 02, Change 11: "20 if a point in it breaks a rule"): the same rules as in `Meets`, each tried on the state alone, over
-- its units, the frames of a stack by their indices, and the order of placing. That the test is true exactly if the rules are met is proved in proofs/Tested.
-- Assumes nothing.
use Rattle.std.specs.Prelude.{Bool, not, ltb, get_or, length, drop}
use Rattle.std.proofs.Math.Bool.{true, false}
use mathlib.Core.List.{List, [], ◌∷◌, ◌++◌}
use Prim.Native.Nat.{ℕ, zero, suc, ◌+◌}
use Rattle.std.proofs.Math.Dec.{eqb, leb}
use Rattle.paper.specs.Strategy.{Step}
use Rattle.paper.specs.Book.{Book, arity, steps}
use Rattle.paper.specs.Writer.{same}
use Rattle.paper.specs.Machine.{Limits, exceeds}
use Rattle.paper.specs.Idle.{times}
use Rattle.flat.specs.Symbols.{argument}
use Rattle.flat.specs.Sizes.{sizes}
use Rattle.flat.specs.Machine.{Frame, FlatState, unit, idle_count, next_count}
use Rattle.flat.specs.Rules.{forks_left, nth_frame, above, steps_left, jobs, jobs_at, exits_in, exits_to, of_rank, upto, spells, stack}
use Rattle.flat.specs.Meets.{named, frame}

-- TESTS TOGETHER

unfoldable pub and : Bool → Bool → Bool
and true b = b
and false b = false

unfoldable pub or : Bool → Bool → Bool
or true b = true
or false b = b

-- for each number below n; for some
unfoldable pub each_below : (ℕ → Bool) → ℕ → Bool
unfolding and
each_below f zero = true
each_below f (suc n) = and (f n) (each_below f n)

unfoldable pub some_below : (ℕ → Bool) → ℕ → Bool
unfolding or
some_below f zero = false
some_below f (suc n) = or (f n) (some_below f n)

-- for each frame of a stack, with its index
unfoldable pub each_frame : (ℕ → Frame → Bool) → List Frame → Bool
unfolding and
each_frame f [] = true
each_frame f (g ∷ fs) = and (f (length fs) g) (each_frame f fs)

unfoldable pub each_of : (ℕ → Bool) → List ℕ → Bool
unfolding and
each_of f [] = true
each_of f (x ∷ xs) = and (f x) (each_of f xs)

-- STEPS

unfoldable pub is_some : List Step → Bool
is_some [] = false
is_some (s ∷ ss) = true

unfoldable pub in_group : List Step → Bool
in_group [] = false
in_group (Step.visit i ∷ ss) = in_group ss
in_group (Step.fork i ∷ ss) = in_group ss
in_group (Step.join c ∷ ss) = true
in_group (Step.whole ∷ ss) = false

unfoldable pub at_join : List Step → Bool
at_join [] = false
at_join (Step.visit i ∷ ss) = false
at_join (Step.fork i ∷ ss) = false
at_join (Step.join c ∷ ss) = true
at_join (Step.whole ∷ ss) = false

unfoldable pub unnamed : ℕ → List Step → Bool
unfolding and
unnamed x [] = true
unnamed x (Step.visit i ∷ ss) = and (not (eqb x i)) (unnamed x ss)
unnamed x (Step.fork i ∷ ss) = and (not (eqb x i)) (unnamed x ss)
unnamed x (Step.join c ∷ ss) = unnamed x ss
unnamed x (Step.whole ∷ ss) = unnamed x ss

module _ (B : Book) (s : FlatState) where
  abbrev xs : List ℕ
  xs = s.symbols

  abbrev left : ℕ → ℕ → List Step
  left a k = drop k (steps B (get_or xs a 0))

  -- A FRAME BY ITSELF

  unfoldable pub job_good : ℕ → ℕ → ℕ → Bool
  unfolding and or is_some in_group next_count
  job_good a zero c = and (ltb a (length xs)) (eqb c 0)
  job_good a (suc k) c =
      and (ltb a (length xs)) (and (is_some (left a k)) (and (leb c (next_count (left a k))) (or (in_group (left a k)) (eqb c (next_count (left a k))))))

  unfoldable pub exit_good : ℕ → ℕ → ℕ → Bool
  unfolding and in_group steps_left nth_frame
  exit_good v w i = and (not (eqb w v)) (and (ltb i (length (stack s w))) (in_group (steps_left B xs (frame s w i))))

  -- EXITs for the job of unit u at stack index i
  abbrev pub awaited : ℕ → ℕ → ℕ
  awaited u i = upto (λ v. exits_to u i (stack s v)) (length s.units)

  unfoldable pub count_good : ℕ → ℕ → ℕ → ℕ → ℕ → Bool
  unfolding or in_group steps_left forks_left upto exits_to
  count_good u i a k c = or (not (in_group (steps_left B xs (Frame.job a k c)))) (eqb c (forks_left (steps_left B xs (Frame.job a k c)) + awaited u i))

  unfoldable pub room_good : ℕ → ℕ → ℕ → ℕ → Bool
  unfolding named jobs upto exits_to nth_frame
  room_good u i a zero = true
  room_good u i a (suc k) = leb (named (left a k) + jobs (frame s u (suc i) ∷ []) + awaited u i) (arity B (get_or xs a 0))

  unfoldable pub frame_good : ℕ → ℕ → Frame → Bool
  unfolding and job_good exit_good count_good room_good
  frame_good v i (Frame.job a k c) = and (job_good a k c) (and (count_good v i a k c) (room_good v i a k))
  frame_good v i (Frame.exit w j) = exit_good v w j
  frame_good v i Frame.sleep = true
  frame_good v i Frame.bingo = true

  -- A FRAME AND THE ONE BELOW IT

  unfoldable pub taken : Frame → ℕ → Bool
  unfolding and some_below unnamed argument
  taken (Frame.job b zero c) a = false
  taken (Frame.job b (suc k) c) a = some_below (λ x. and (eqb a (argument (arity B) xs b x)) (unnamed x (left b k))) (arity B (get_or xs b 0))
  taken (Frame.exit w i) a = false
  taken Frame.sleep a = false
  taken Frame.bingo a = false

  unfoldable pub carries : ℕ → List Frame → Bool
  unfolding taken nth_frame
  carries a [] = false
  carries a (Frame.job b k c ∷ fs) = taken (Frame.job b k c) a
  carries a (Frame.exit w i ∷ fs) = taken (frame s w i) a
  carries a (Frame.sleep ∷ fs) = false
  carries a (Frame.bingo ∷ fs) = eqb a 0

  unfoldable pub holds : List Frame → Bool
  unfolding and at_join next_count
  holds [] = false
  holds (Frame.job a zero c ∷ fs) = false
  holds (Frame.job a (suc k) c ∷ fs) = and (at_join (left a k)) (leb 1 (next_count (left a k)))
  holds (Frame.exit w i ∷ fs) = false
  holds (Frame.sleep ∷ fs) = true
  holds (Frame.bingo ∷ fs) = false

  unfoldable pub stack_good : ℕ → List Frame → Bool
  unfolding and carries holds
  stack_good v [] = false
  stack_good v (Frame.job a k c ∷ fs) = and (carries a fs) (stack_good v fs)
  stack_good v (Frame.exit w i ∷ fs) = and (holds fs) (stack_good v fs)
  stack_good v (Frame.sleep ∷ fs) = and (eqb (length fs) 0) (leb 1 v)
  stack_good v (Frame.bingo ∷ fs) = and (eqb (length fs) 0) (eqb v 0)

  -- A UNIT: its stack, its frames, how often it stands in the order of placing, its rank

  unfoldable pub waits : List Frame → Bool
  unfolding and at_join
  waits [] = false
  waits (Frame.job a zero c ∷ fs) = false
  waits (Frame.job a (suc k) c ∷ fs) = and (at_join (left a k)) (ltb 0 c)
  waits (Frame.exit w i ∷ fs) = false
  waits (Frame.sleep ∷ fs) = true
  waits (Frame.bingo ∷ fs) = false

  unfoldable pub rank_good : ℕ → Bool
  unfolding and or waits idle_count
  rank_good v = and (leb (unit s.units v).rank (idle_count s.units)) (or (eqb (unit s.units v).rank 0) (waits (stack s v)))

  unfoldable pub unit_good : ℕ → Bool
  unfolding and stack_good each_frame frame_good exits_in times rank_good
  unit_good v =
      and (stack_good v (stack s v)) (and (each_frame (frame_good v) (stack s v)) (and (eqb (exits_in (stack s v)) (times v s.placed)) (rank_good v)))

  -- THE ORDER OF PLACING: a part of unit v, those of the units later being placed later

  unfoldable pub part_good : List ℕ → ℕ → ℕ → Frame → Bool
  unfolding or exits_in times
  part_good later v j (Frame.job a k c) = true
  part_good later v j (Frame.exit w i) =
      or (not (eqb (exits_in (above j (stack s v))) (times v later))) (leb (times w (v ∷ later)) (exits_in (above i (stack s w))))
  part_good later v j Frame.sleep = true
  part_good later v j Frame.bingo = true

  unfoldable pub order_good : List ℕ → List ℕ → Bool
  unfolding and each_frame part_good
  order_good later [] = true
  order_good later (v ∷ before) = and (each_frame (part_good later v) (stack s v)) (order_good (later ++ (v ∷ [])) before)

-- THE TEST
unfoldable pub tested : Book → Limits → FlatState → Bool
unfolding and each_below each_of spells sizes same unit_good order_good jobs_at upto of_rank idle_count
tested B L s =
    and (spells (arity B) 1 s.symbols)
    (and (not (exceeds L.symbols (length s.symbols)))
    (and (same s.sizes (sizes (arity B) s.symbols))
    (and (eqb (length s.marks) (length s.symbols))
    (and (leb s.rewrites L.budget)
    (and (leb 1 (length s.units))
    (and (each_below (λ x. leb (upto (λ v. jobs_at x (stack s v)) (length s.units)) 1) (length s.symbols))
    (and (each_below (unit_good B s) (length s.units))
    (and (each_of (λ v. ltb v (length s.units)) s.placed)
    (and (order_good B s [] s.placed)
    (each_below (λ r. eqb (of_rank (suc r) s.units) 1) (idle_count s.units)))))))))))

-- with what is asked of a point with its book
unfoldable pub point_tested : Book → Limits → FlatState → Bool
unfolding and tested each_of
point_tested B L s = and (tested B L s) (and (each_of (λ o. ltb o (length B.operators)) s.symbols) (leb (length s.units) 8))
