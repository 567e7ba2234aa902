-- Answers of `stack_inside`. Assumes nothing.
use mathlib.Core.Path.{ap, ◌∙◌}
use Prim.Native.Nat.{◌-◌, ◌<◌}
use native.Mathlib.Omega.{arith}
use Rattle.flat.specs.Tested.{each_frame}
use Rattle.units.specs.Stacks.{store}
use Rattle.point_frames.specs.Test as T
use Rattle.point_frames.proofs.Stacks.{heights, stack_some, frames_none, frames_pass, frames_fail}
use Rattle.point_frames.proofs.stack_inside.Goals as goal

pub height-h-requires : goal.height-h-requires
height-h-requires c =
    let p = c.requires in
    let l : c.args.v < 8 = omega (arith, p) in
    (l, (heights p.0).least _ l)

pub loop-h-init : goal.loop-h-init
loop-h-init c = (
  omega (arith, c.height-h.ensures),
  ap (each_frame (λ i. T.inside c.args.n))
      (stack_some (store c.args.work.now c.args.cells.now) c.args.units c.args.v c.requires.1 c.height-h.result (omega (arith, c.height-h.ensures))),
)

pub returns-then-not-inside : goal.returns-then-not-inside
returns-then-not-inside c =
    let h = c.loop-h.h in
    c.loop-h.invariant.1
    ∙ frames_fail (λ i. T.inside c.args.n) (store c.args.work.now c.args.cells.now) c.args.units c.args.v c.requires.1 h (h - 1)
    (omega (arith, c.loop-h.invariant.0)) (omega arith) (ap (T.inside c.args.n) c.frame.ensures.0 ∙ c.inside.ensures ∙ c.if-not-inside.true)

pub loop-h-preserved : goal.loop-h-preserved
loop-h-preserved c =
    let h = c.loop-h.h in (
      omega (arith, c.loop-h.invariant.0),
      c.loop-h.invariant.1
          ∙ frames_pass (λ i. T.inside c.args.n) (store c.args.work.now c.args.cells.now) c.args.units c.args.v c.requires.1 h (h - 1)
          (omega (arith, c.loop-h.invariant.0)) (omega arith) (ap (T.inside c.args.n) c.frame.ensures.0 ∙ c.inside.ensures ∙ c.if-not-inside.false),
    )

pub returns : goal.returns
returns c = let l = c.loop-h in l.invariant.1 ∙ frames_none _ _ _ l.h (omega arith)
