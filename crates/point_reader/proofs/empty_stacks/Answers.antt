-- Answers of `empty_stacks`. Assumes nothing.
use mathlib.Core.Path.{subst}
use Prim.Native.Nat.{ℕ}
use native.Mathlib.Omega.{arith}
use Rattle.point_reader.specs.Promises.{EmptyBelow}
use Rattle.point_reader.proofs.Units.{empty_none, empty_more}
use Rattle.point_reader.proofs.empty_stacks.Goals as goal

pub loop-u-init : goal.loop-u-init
loop-u-init c = empty_none c.requires

pub loop-u-preserved : goal.loop-u-preserved
loop-u-preserved c = empty_more c.loop-u.invariant c.loop-u-test.true c.base_of.ensures c.store.ensures

pub returns : goal.returns
returns c = subst (λ (u : ℕ). EmptyBelow u c.loop-u.cells) (omega (arith, c.loop-u-test.false)) c.loop-u.invariant
