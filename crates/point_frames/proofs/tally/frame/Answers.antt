-- `point_frames::tally::frame` meets its contract: the frame at the index, or SLEEP where there is none. Assumes nothing.
use mathlib.Core.Path.{sym, ap, ◌∙◌}
use Prim.Native.Nat.{ℕ, ◌+◌, ◌*◌, ◌<◌}
use native.Mathlib.Omega.{arith}
use Rattle.units.specs.Frames.{frame_at}
use Rattle.units.specs.Stacks.{store}
use Rattle.point_frames.proofs.Stacks.{heights, frame_there, frame_missing, no_unit}
use Rattle.point_frames.proofs.tally.frame.Goals as goal
use Rattle.point_frames.proofs.tally.frame.Goals.{else-v-units-via-then-v-units+else-i-height, else-v-units-via-else-v-units}

pub height-requires : goal.height-requires
height-requires c =
    let p = c.requires in
    let l : c.args.v < 8 = omega (arith, p.few) in
    (l, (heights p).least _ l)

pub base_of-requires : goal.base_of-requires
base_of-requires c = omega (arith, c.requires.few)

pub overflow_mul-i : goal.overflow_mul-i
overflow_mul-i c =
    let p = c.requires in
    omega (arith, c.height.ensures, p.fit.most c.args.v)

pub overflow_add-base_of : goal.overflow_add-base_of
overflow_add-base_of c =
    let p = c.requires in
    omega (arith, c.height.ensures, p.fit.most c.args.v, c.base_of.ensures, p.few)

pub frame_at-requires : goal.frame_at-requires
frame_at-requires c =
    let p = c.requires in
    omega (arith, c.height.ensures, p.fit.most c.args.v, c.base_of.ensures, p.few, p.fit.regions.bytes)

pub returns-then-i-height : goal.returns-then-i-height
returns-then-i-height c =
    let g = frame_there (store c.args.work.now c.args.cells.now) c.args.units c.args.v c.if-v-units.true c.args.i (omega (arith, c.height.ensures)) in
    (g ∙ ap (λ (x : ℕ). frame_at c.args.work.now (x + 3 * c.args.i)) (sym c.base_of.ensures) ∙ sym c.frame_at.ensures.0, c.frame_at.ensures.1)

pub returns : goal.returns
returns c =
    let k = store c.args.work.now c.args.cells.now in
    elim c.else-v-units.branch [
      | else-v-units-via-then-v-units+else-i-height w ↦
          (frame_missing k c.args.units c.args.v w.if-v-units.true c.args.i (let h = w.height.ensures in let l = w.if-i-height.false in omega (arith, h, l)), tt)
      | else-v-units-via-else-v-units w ↦ (no_unit k c.args.units c.args.v w.if-v-units.false c.args.i, tt)
    ]
