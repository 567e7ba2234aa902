-- `point_frames::tally::count_all` meets its contract: the loop's invariant: the units below v are left to count. Assumes nothing.
use Prim.Native.Nat.{◌≤◌}
use Rattle.flat.specs.Rules.{jobs_at, exits_to, upto}
use Rattle.units.specs.Stacks.{store}
use Rattle.point_frames.specs.Counting.{stack_in, all_jobs, all_exits}
use Rattle.point_frames.proofs.Counts.{JobsLeft, ExitsLeft}
use Rattle.point_frames.proofs.tally.count_all.Given as goal

abbrev pub invariant-loop-v : goal.invariant-loop-v
invariant-loop-v l =
    (l.v ≤ l.units) × JobsLeft (all_jobs (store l.work l.cells) l.units) (λ x. upto (λ w. jobs_at x (stack_in (store l.work l.cells) l.units w)) l.v) l.initial.jobs l.jobs
    × ExitsLeft l.cells l.units (all_exits (store l.work l.cells) l.units) (λ u i. upto (λ w. exits_to u i (stack_in (store l.work l.cells) l.units w)) l.v) l.initial.exits l.exits
