-- `strategy::push` meets its contract. Assumes nothing.
use mathlib.Core.Path.{refl}
use Prim.Native.Nat.{◌+◌}
use native.Mathlib.Omega.{arith}
use lib.Seq.{drop-set-lt}
use Rattle.strategy.proofs.Front.{kept_push}
use Rattle.strategy.proofs.push.Goals as goal

pub returns : goal.returns
returns c = (kept_push _ _ c.requires.0 _ c.requires.1, refl, drop-set-lt (c.args.len + 1) _ c.args.len _ (omega arith))
