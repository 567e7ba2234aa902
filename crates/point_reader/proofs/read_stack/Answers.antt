-- Answers of `read_stack`. Assumes nothing.
use mathlib.Core.Path.{refl}
use native.Mathlib.Omega.{arith}
use Rattle.point_reader.proofs.Units.{stacking_start, stacking_more, stacking_out, stacking_all}
use Rattle.point_reader.proofs.read_stack.Goals as goal

pub loop-left-init : goal.loop-left-init
loop-left-init c = stacking_start

pub shape_of-work-in_err-frame : goal.shape_of-work-in_err-frame
shape_of-work-in_err-frame c = c.loop-left.invariant.outside.size

pub returns-in_err-frame : goal.returns-in_err-frame
returns-in_err-frame c =
    rw c.from_residual.ensures (stacking_out c.loop-left.invariant c.loop-left-test.true (rw c.in_err-frame.was at c.read_frame.ensures))

pub put_frame-requires : goal.put_frame-requires
put_frame-requires c = (
  omega (arith, c.loop-left.invariant.few, c.loop-left.invariant.outside.size, c.loop-left-test.true, c.requires.2),
  (rw c.in_ok-frame.was at c.read_frame.ensures).is.1,
)

pub loop-left-preserved : goal.loop-left-preserved
loop-left-preserved c =
    stacking_more c.loop-left.invariant _ _ _ _ _ (rw c.in_ok-frame.was at c.read_frame.ensures).is.0 (omega (arith, c.loop-left-test.true)) refl
    c.put_frame.ensures

pub shape_of-work : goal.shape_of-work
shape_of-work c = c.loop-left.invariant.outside.size

pub returns : goal.returns
returns c = stacking_all c.loop-left.invariant (omega (arith, c.loop-left-test.false))
