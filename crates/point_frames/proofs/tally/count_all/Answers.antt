-- Answers of `tally.count_all`. Assumes nothing.
use mathlib.Core.Path.{◌≡◌, refl}
use Prim.Native.Nat.{◌+◌, ◌-◌}
use native.Mathlib.Omega.{arith}
use Rattle.point_frames.proofs.Counts.{jobs_first, jobs_fit, jobs_more, jobs_all, exits_first, exits_fit, exits_more, exits_all, upto_next, upto_end, jobs_room, exits_room, jobs_tallied, exits_tallied}
use Rattle.point_frames.proofs.tally.count_all.Goals as goal

pub loop-v-init : goal.loop-v-init
loop-v-init c =
    let p = c.requires in
    (omega arith, jobs_first (jobs_room p.0 p.1) (λ x. refl), exits_first (exits_room p.0 p.2) (λ u i. refl))

pub count_stack-requires : goal.count_stack-requires
count_stack-requires c =
    let i = c.loop-v.invariant in
    let e : c.loop-v.v ≡ c.loop-v.v - 1 + 1 = omega arith in record {
      kept = (c.requires.0, omega (arith, i.0));
      jobs_room = (
        jobs_fit i.1 _ _ (λ x. upto_next _ c.loop-v.v (c.loop-v.v - 1) e) (jobs_room c.requires.0 c.requires.1),
        exits_fit i.2 _ _ (λ u j. upto_next _ c.loop-v.v (c.loop-v.v - 1) e) (exits_room c.requires.0 c.requires.2),
      );
    }

pub loop-v-preserved : goal.loop-v-preserved
loop-v-preserved c =
    let i = c.loop-v.invariant in
    let e : c.loop-v.v ≡ c.loop-v.v - 1 + 1 = omega arith in (
      omega (arith, i.0),
      jobs_more i.1 _ _ (λ x. upto_next _ c.loop-v.v (c.loop-v.v - 1) e) c.count_stack.ensures.jobs_added,
      exits_more i.2 _ _ (λ u j. upto_next _ c.loop-v.v (c.loop-v.v - 1) e) c.count_stack.ensures.exits_added,
    )

pub returns : goal.returns
returns c =
    let l = c.loop-v in
    let p = c.requires in (
      jobs_tallied p.1 (jobs_all l.invariant.1 (λ x. upto_end _ l.v (omega arith))),
      exits_tallied p.2 (exits_all l.invariant.2 (λ u i. upto_end _ l.v (omega arith))),
    )
