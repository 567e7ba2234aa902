-- `units::start` meets its contract: from all units asleep, two changes at unit 0. Assumes nothing.
use native.Mathlib.Omega.{arith}
use borrow.Author.Rules.{rules}
use Rattle.units.proofs.Loops.{asleep_fit, started}
use Rattle.units.proofs.start.Goals as goal

pub set_top-requires : goal.set_top-requires
set_top-requires c =
    let q = c.sleep_all.ensures in
    (record { fit = asleep_fit q; unit = omega arith; index = omega (arith, q.ends 0 (omega arith)) }, tt)

pub push-requires : goal.push-requires
push-requires c =
    let q = c.sleep_all.ensures in
    (record { fit = c.set_top.ensures.fit; unit = omega arith; room = omega (arith, q.ends 0 (omega arith)) }, search rules)

pub returns : goal.returns
returns c =
    started c.sleep_all.ensures c.set_top.ensures (rw c.new.ensures at c.push.ensures)
