-- Answers of `sleep_all`. Assumes nothing.
use mathlib.Core.Path.{subst, ◌≡◌, refl, ◌∙◌}
use Prim.Native.Nat.{ℕ}
use native.Mathlib.Omega.{arith}
use Rattle.units.specs.Stacks.{store}
use Rattle.units.specs.Promises.{AsleepBelow}
use Rattle.units.proofs.Loops.{asleep_none, asleep_more}
use Rattle.units.proofs.sleep_all.Goals as goal

pub loop-u-init : goal.loop-u-init
loop-u-init c =
    (refl, asleep_none c.requires)

pub loop-u-preserved : goal.loop-u-preserved
loop-u-preserved c =
    let q = c.loop-u.invariant in
    let f = c.put_frame.ensures in
    (f.outside.size ∙ q.0, asleep_more q.1 (omega arith) c.base_of-base.ensures f c.store.ensures)

pub shape_of-work : goal.shape_of-work
shape_of-work c = c.loop-u.invariant.0

pub returns : goal.returns
returns c =
    let e : c.loop-u.u ≡ 8 = omega arith in
    subst (λ (u : ℕ). AsleepBelow u (store c.loop-u.work c.loop-u.units)) e c.loop-u.invariant.1
