-- `point_frames::tally::count_stack` meets its contract: the loop's invariant: the lowest h frames are left to count. Assumes nothing.
use Prim.Native.Nat.{◌≤◌}
use Rattle.units.specs.Stacks.{base, stack_of, height_in, store}
use Rattle.point_frames.specs.Counting.{stack_in, jobs_of, exits_of}
use Rattle.point_frames.proofs.Counts.{JobsLeft, ExitsLeft}
use Rattle.point_frames.proofs.tally.count_stack.Given as goal

abbrev pub invariant-loop-h : goal.invariant-loop-h
invariant-loop-h l =
    (l.h ≤ height_in l.cells l.v) × JobsLeft (jobs_of (stack_in (store l.work l.cells) l.units l.v)) (jobs_of (stack_of l.work (base l.v) l.h)) l.initial.jobs l.jobs
    × ExitsLeft l.cells l.units (exits_of (stack_in (store l.work l.cells) l.units l.v)) (exits_of (stack_of l.work (base l.v) l.h)) l.initial.exits l.exits
