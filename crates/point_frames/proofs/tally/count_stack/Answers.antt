-- Answers of `tally.count_stack`. Assumes nothing.
use mathlib.Core.List.{List, [], ◌∷◌}
use mathlib.Core.Path.{◌≡◌, ap}
use Prim.Native.Nat.{ℕ, ◌+◌, ◌-◌, ◌≤◌, ◌<◌}
use native.Mathlib.Omega.{arith}
use Rattle.flat.specs.Machine.{Frame}
use Rattle.flat.specs.Rules.{jobs_at, exits_to}
use Rattle.units.specs.Frames.{flat}
use Rattle.units.specs.Stacks.{base, stack_of, height_in, store}
use Rattle.point_frames.specs.Counting.{frame_in}
use Rattle.point_frames.proofs.Stacks.{heights, stack_some}
use Rattle.point_frames.proofs.Counts.{jobs_first, jobs_fit, jobs_more, jobs_all, exits_first, exits_fit, exits_more, exits_all, jobs_lower, exits_lower, jobs_end, exits_end}
use Rattle.point_frames.proofs.tally.count_stack.Goals as goal

-- the frame on top of those that are left, and those below it
lowered : (work cells : List ℕ) (n v h : ℕ) (g : Frame) → v < n → 0 < h → h ≤ height_in cells v → frame_in (store work cells) n v (h - 1) ≡ g →
    ((x : ℕ) → jobs_at x (stack_of work (base v) h) ≡ jobs_at x (g ∷ []) + jobs_at x (stack_of work (base v) (h - 1)))
    × ((w i : ℕ) → exits_to w i (stack_of work (base v) h) ≡ exits_to w i (g ∷ []) + exits_to w i (stack_of work (base v) (h - 1)))
lowered work cells n v h g b p m f =
    let k = store work cells in
    let q : h - 1 < height_in cells v = omega arith in
    let e : h ≡ h - 1 + 1 = omega arith in
    (jobs_lower k n v b h (h - 1) q e g f, exits_lower k n v b h (h - 1) q e g f)

pub height-h-requires : goal.height-h-requires
height-h-requires c =
    let p = c.requires.kept in
    let l : c.args.v < 8 = omega (arith, p) in
    (l, (heights p.0).least _ l)

pub loop-h-init : goal.loop-h-init
loop-h-init c =
    let e = stack_some (store c.args.work.now c.args.cells.now) c.args.units c.args.v c.requires.kept.1 c.height-h.result (omega (arith, c.height-h.ensures)) in
    (omega (arith, c.height-h.ensures), jobs_first c.requires.jobs_room.0 (λ x. ap (jobs_at x) e), exits_first c.requires.jobs_room.1 (λ w i. ap (exits_to w i) e))

pub count-requires : goal.count-requires
count-requires c =
    let a = c.args in
    let v = c.loop-h.invariant in
    let j = lowered a.work.now a.cells.now a.units a.v c.loop-h.h (flat c.frame.result) c.requires.kept.1 (omega arith) v.0 c.frame.ensures.0 in record {
      heights = (heights c.requires.kept.0, c.frame.ensures.1);
      jobs_room = (jobs_fit v.1 _ _ j.0 c.requires.jobs_room.0, exits_fit v.2 _ _ j.1 c.requires.jobs_room.1);
    }

pub loop-h-preserved : goal.loop-h-preserved
loop-h-preserved c =
    let a = c.args in
    let v = c.loop-h.invariant in
    let j = lowered a.work.now a.cells.now a.units a.v c.loop-h.h (flat c.frame.result) c.requires.kept.1 (omega arith) v.0 c.frame.ensures.0 in
    (omega (arith, v.0), jobs_more v.1 _ _ j.0 c.count.ensures.jobs_added, exits_more v.2 _ _ j.1 c.count.ensures.exits_added)

pub returns : goal.returns
returns c =
    let l = c.loop-h in
    record { jobs_added = jobs_all l.invariant.1 (jobs_end _ _ l.h (omega arith)); exits_added = exits_all l.invariant.2 (exits_end _ _ l.h (omega arith)) }
