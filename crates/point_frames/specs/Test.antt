-- The part of a point's test (flat/specs/Tested; document 02, Change 11) that concerns frames and stacks, and the one that is made first: whether jobs are inside
-- the term. Assumes nothing.
use Rattle.std.specs.Prelude.{Bool, true, false, [], ◌∷◌, ℕ, leb, ltb, length}
use Rattle.paper.specs.Book.{Book}
use Rattle.flat.specs.Machine.{Frame, FlatState}
use Rattle.flat.specs.Rules.{jobs_at, upto, stack}
use Rattle.flat.specs.Tested.{and, each_below, each_frame, frame_good, carries, holds, stack_good}

-- at most one job at offset x; the stack of unit v, and each of its frames
abbrev pub one_job : FlatState → ℕ → Bool
one_job s x = leb (upto (λ v. jobs_at x (stack s v)) (length s.units)) 1

abbrev pub stack_tested : Book → FlatState → ℕ → Bool
stack_tested B s v = and (stack_good B s v (stack s v)) (each_frame (frame_good B s v) (stack s v))

unfoldable pub frames_tested : Book → FlatState → Bool
unfolding and each_below
frames_tested B s = and (each_below (one_job s) (length s.symbols)) (each_below (stack_tested B s) (length s.units))

-- a job is inside a term of n symbols
abbrev pub inside : ℕ → Frame → Bool
inside n (Frame.job a k c) = ltb a n
inside n (Frame.exit v i) = true
inside n Frame.sleep = true
inside n Frame.bingo = true

-- a frame may stand on the frame g
abbrev pub stands : Book → FlatState → Frame → Frame → Bool
stands B s (Frame.job a k c) g = carries B s a (g ∷ [])
stands B s (Frame.exit v i) g = holds B s (g ∷ [])
stands B s Frame.sleep g = false
stands B s Frame.bingo g = false
