-- Answers of `steps.from`. Assumes nothing.
use Prim.Native.Nat.{◌-◌}
use native.Mathlib.Omega.{arith}
use Rattle.point_frames.proofs.Rows.{few_forks, few_named, told_first, told_next, told_last}
use Rattle.point_frames.proofs.steps.from.Goals as goal

pub loop-i-init : goal.loop-i-init
loop-i-init c = (omega arith, omega arith, omega arith, told_first c.requires 0 c.none-r.result c.none-r.ensures)

pub prepended-r-requires : goal.prepended-r-requires
prepended-r-requires c =
    let p = c.requires in
    let t = c.loop-i.invariant.3 in
    record { forks = omega (arith, t.forks, few_forks p c.loop-i.i); named = omega (arith, t.named, few_named p c.loop-i.i) }

pub loop-i-preserved : goal.loop-i-preserved
loop-i-preserved c =
    let i = c.loop-i.i in (
      omega arith,
      omega arith,
      omega arith,
      told_next c.requires (i - 1) c.loop-i.r c.prepended-r.result i _ (omega arith) (omega arith) c.step_at.ensures c.loop-i.invariant.3
          c.prepended-r.ensures,
    )

pub returns : goal.returns
returns c =
    let v = c.loop-i.invariant in
    told_last c.requires _ c.loop-i.r c.loop-i.i c.loop-i-test.false v.2 v.1 v.3
