-- `placing::place` meets its contract. Assumes nothing.
use mathlib.Core.Path.{refl}
use native.Mathlib.Omega.{arith}
use Rattle.placing.proofs.Order.{placed}
use Rattle.placing.proofs.place.Goals as goal

pub returns : goal.returns
returns c =
    placed _ _ _ _ _ c.requires (omega (arith, c.pending-n.ensures.0)) refl refl
