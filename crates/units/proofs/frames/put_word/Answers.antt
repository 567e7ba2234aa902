-- `units::frames::put_word` meets its contract: three stores. Assumes nothing.
use native.Mathlib.Omega.{arith}
use lib.ListN.{length-set}
use Rattle.units.proofs.Areas.{stores}
use Rattle.units.proofs.frames.put_word.Goals as goal

pub bounds-work-at-2 : goal.bounds-work-at-2
bounds-work-at-2 c = simp length-set (omega arith)

pub bounds-work-at-3 : goal.bounds-work-at-3
bounds-work-at-3 c = simp length-set (omega arith)

pub returns : goal.returns
returns c = stores _ _ _ c.requires
