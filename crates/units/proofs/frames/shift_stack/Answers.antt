-- Answers of `frames.shift_stack`. Assumes nothing.
use mathlib.Core.Logic.{inl}
use mathlib.Core.Path.{◌≡◌}
use Prim.Native.Nat.{◌+◌, ◌*◌, ◌-◌, ◌<◌}
use native.Mathlib.Omega.{arith}
use lib.ListN.{length}
use Rattle.flat.specs.Machine.{shift_frame}
use Rattle.units.specs.Stacks.{Below}
use Rattle.units.specs.Promises.{frames}
use Rattle.units.proofs.Areas.{outside_frame}
use Rattle.units.proofs.Stacks.{all_at, above_none, above_more, above_all}
use Rattle.units.proofs.frames.shift_stack.Goals as goal

pub loop-at-init : goal.loop-at-init
loop-at-init c = (omega arith, omega arith, above_none (omega arith))

pub shift_at-requires : goal.shift_at-requires
shift_at-requires c =
    let a = c.args in
    let at = c.loop-at.at in
    let j = frames a.from at - 1 in
    let q = c.loop-at.invariant.2 in
    let z : at - 3 ≡ a.from + 3 * j = omega arith in
    let b : j < frames a.from a.end = omega arith in
    let n : length c.loop-at.work ≡ length a.work.now = q.outside.size in (
      omega arith,
      rw (z, outside_frame q.outside (a.from + 3 * j) (inl (omega arith)))
          (all_at (Below 1024) (shift_frame a.a a.e a.n) a.work.now a.from (frames a.from a.end) j c.requires.offsets b),
    )

pub loop-at-preserved : goal.loop-at-preserved
loop-at-preserved c =
    let a = c.args in
    let j = frames a.from c.loop-at.at - 1 in
    (omega arith, omega arith, above_more j c.loop-at.invariant.2 (omega arith) (omega arith) (omega arith) c.shift_at.ensures)

pub shape_of-work : goal.shape_of-work
shape_of-work c = c.loop-at.invariant.2.outside.size

pub returns : goal.returns
returns c = above_all (omega arith) c.loop-at.invariant.2
