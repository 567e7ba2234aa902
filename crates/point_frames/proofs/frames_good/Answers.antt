-- `point_frames::frames_good` meets its contract: offsets, then counts, then each unit. Assumes nothing.
use mathlib.Core.Path.{refl, ◌∙◌}
use native.Mathlib.Omega.{arith}
use Rattle.units.specs.Stacks.{store}
use Rattle.point_frames.proofs.Whole.{all_inside, job_outside, job_twice, jobs_once}
use Rattle.point_frames.proofs.frames_good.Goals as goal

pub returns-then-not-all_inside : goal.returns-then-not-all_inside
returns-then-not-all_inside c =
    job_outside c.requires.0 c.length-n.result c.length-n.ensures (c.all_inside.ensures ∙ c.if-not-all_inside.true)

pub count_all-requires : goal.count_all-requires
count_all-requires c = (c.requires.1, refl, refl)

pub distinct-requires : goal.distinct-requires
distinct-requires c =
    omega (arith, c.length-n.ensures, c.requires.0.sized.most)

pub returns-then-not-distinct : goal.returns-then-not-distinct
returns-then-not-distinct c =
    job_twice c.requires.0 c.count_all.ensures.0 c.length-n.result c.length-n.ensures c.distinct.ensures c.if-not-distinct.true

pub each_unit_good-requires : goal.each_unit_good-requires
each_unit_good-requires c = (
  record {
    term = c.requires.0;
    kept = c.requires.1;
    inside = rw c.length-n.ensures at
        (all_inside {m = c.length-n.result} (store c.args.work.now c.args.cells.now) c.args.units (c.all_inside.ensures ∙ c.if-not-all_inside.false));
  },
  c.count_all.ensures.1,
)

pub returns : goal.returns
returns c =
    jobs_once c.requires.0 c.count_all.ensures.0 c.length-n.result c.length-n.ensures c.distinct.ensures c.if-not-distinct.false
    c.each_unit_good.ensures
