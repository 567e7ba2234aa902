-- `strategy::close` meets its contract: the ways to close a group are those of Front. Assumes nothing.
use mathlib.Core.Path.{refl}
use Prim.Native.Nat.{◌+◌}
use native.Mathlib.Omega.{arith}
use lib.Seq.{drop-set-lt}
use Rattle.strategy.proofs.Front.{close_none, close_one, close_more}
use Rattle.strategy.proofs.close.Goals as goal

pub returns-then-len-group : goal.returns-then-len-group
returns-then-len-group c = (close_none _ _ c.requires.0 _ c.requires.1 c.if-len-group.true, omega arith, omega arith, refl)

pub returns-then-len-group-2 : goal.returns-then-len-group-2
returns-then-len-group-2 c = (
  close_one _ _ c.requires.0 _ c.requires.1 c.if-len-group-2.true _ refl,
  omega arith,
  omega arith,
  drop-set-lt (c.args.len + 1) _ c.args.group _ (omega arith),
)

pub returns : goal.returns
returns c = (
  close_more _ _ c.requires.0 _ c.requires.1 c.if-len-group.false c.if-len-group-2.false _ _ c.push.ensures.0,
  omega arith,
  omega arith,
  c.push.ensures.2,
)
