-- `whole::apply` meets its contract. Assumes nothing.
use mathlib.Core.Path.{refl}
use native.Mathlib.Omega.{arith}
use Rattle.whole.proofs.Applying.{room, unmoved, alone_unmoved, applied}
use Rattle.whole.proofs.apply.Goals as goal
use Rattle.whole.proofs.apply.Goals.{else-count-gt1-via-then-count-gt1+else-a-k, else-count-gt1-via-else-count-gt1}

pub replace-requires : goal.replace-requires
replace-requires c =
    (rw c.length-len.ensures c.requires.0, c.requires.3)

pub shift_units-requires : goal.shift_units-requires
shift_units-requires c =
    let r = c.requires.0 in
    room c.requires.4 c.set_top.ensures (omega (arith, c.requires.1)) r.most _ r.fits

pub returns-then-a-k : goal.returns-then-a-k
returns-then-a-k c =
    let g = rw c.length-len.ensures at c.replace.ensures in
    applied g refl c.set_top.ensures c.shift_units.ensures

-- nothing moves: as many symbols come as go, or there is one unit
pub returns-else-count-gt1 : goal.returns-else-count-gt1
returns-else-count-gt1 c =
    let g = rw c.length-len.ensures at c.replace.ensures in
    applied g refl c.set_top.ensures
    (elim c.else-count-gt1.branch [
      | else-count-gt1-via-then-count-gt1+else-a-k w ↦ unmoved w.if-a-k.false c.set_top.ensures.fit
      | else-count-gt1-via-else-count-gt1 w ↦
          alone_unmoved c.requires.4 c.set_top.ensures refl (omega arith) _ _ c.requires.2
    ])
