-- Answers of `each_frame_good`. Assumes nothing.
use mathlib.Core.Path.{ap, ◌∙◌}
use Prim.Native.Nat.{◌-◌, ◌<◌}
use native.Mathlib.Omega.{arith}
use Rattle.flat.specs.Tested.{each_frame}
use Rattle.flat.specs.Tested as T
use Rattle.units.specs.Stacks.{store}
use Rattle.point_frames.proofs.Stacks.{heights, stack_some, frames_none, frames_pass, frames_fail}
use Rattle.point_frames.proofs.each_frame_good.Goals as goal

pub height-h-requires : goal.height-h-requires
height-h-requires c =
    let p = c.requires in
    let l : c.args.v < 8 = omega (arith, p.2, p.0.kept.few) in
    (l, (heights p.0.kept).least _ l)

pub loop-h-init : goal.loop-h-init
loop-h-init c = (
  omega (arith, c.height-h.ensures),
  λ B z q.
      ap (each_frame (T.frame_good B z c.args.v))
      (stack_some (store c.args.work.now c.args.cells.now) c.args.units c.args.v c.requires.2 c.height-h.result (omega (arith, c.height-h.ensures))),
)

pub frame_good-requires : goal.frame_good-requires
frame_good-requires c =
    let p = c.requires in
    record { readable = (p.0, p.1); v_lt_units = (p.2, omega (arith, c.loop-h.invariant.0)) }

pub returns-then-not-frame_good : goal.returns-then-not-frame_good
returns-then-not-frame_good c =
    let h = c.loop-h.h in
    record {
      is = λ B z q.
          c.loop-h.invariant.1 B z q
          ∙ frames_fail (T.frame_good B z c.args.v) (store c.args.work.now c.args.cells.now) c.args.units c.args.v c.requires.2 h (h - 1)
          (omega (arith, c.loop-h.invariant.0)) (omega arith) (c.frame_good.ensures.is B z q ∙ c.if-not-frame_good.true);
    }

pub loop-h-preserved : goal.loop-h-preserved
loop-h-preserved c =
    let h = c.loop-h.h in (
      omega (arith, c.loop-h.invariant.0),
      λ B z q.
          c.loop-h.invariant.1 B z q
          ∙ frames_pass (T.frame_good B z c.args.v) (store c.args.work.now c.args.cells.now) c.args.units c.args.v c.requires.2 h (h - 1)
          (omega (arith, c.loop-h.invariant.0)) (omega arith) (c.frame_good.ensures.is B z q ∙ c.if-not-frame_good.false),
    )

pub returns : goal.returns
returns c = let l = c.loop-h in record { is = λ B z q. l.invariant.1 B z q ∙ frames_none _ _ _ l.h (omega arith) }
