-- `fill::fill_one` meets its contract. Assumes nothing.
use mathlib.Core.Path.{refl, ap}
use native.Mathlib.Omega.{arith}
use Rattle.fill.specs.Sides.{symbol}
use Rattle.fill.proofs.Placing.{over_operator, operator_room, filled_operator, part_there, over_variable, filled_variable}
use Rattle.fill.proofs.fill_one.Goals as goal

pub returns-then-k-limit : goal.returns-then-k-limit
returns-then-k-limit c = over_operator c.requires.0 (ap symbol c.in-Operator.is) (omega arith)

pub put_sized-requires : goal.put_sized-requires
put_sized-requires c =
    let p = operator_room c.requires.0 (ap symbol c.in-Operator.is) (omega arith) in
    (c.requires.0.sized.long, omega arith, p.0, p.1)

pub returns-else-k-limit : goal.returns-else-k-limit
returns-else-k-limit c =
    filled_operator c.requires.0 (ap symbol c.in-Operator.is) (omega arith) (omega arith) c.put_sized.ensures

pub bounds-bound-i : goal.bounds-bound-i
bounds-bound-i c =
    let v = rw (ap symbol c.in-Variable.is) at c.requires.0.fits in
    omega arith

pub returns-then-limit-k : goal.returns-then-limit-k
returns-then-limit-k c =
    over_variable c.requires.0 c.requires.1 (ap symbol c.in-Variable.is) (rw c.from-i.ensures at c.from-size.ensures) refl (omega arith)

pub copy-requires : goal.copy-requires
copy-requires c =
    let w = c.requires.1 in
    let p = part_there c.requires.0 w (ap symbol c.in-Variable.is) (rw c.from-i.ensures at c.from-size.ensures) (rw c.from-i.ensures at c.from-start.ensures) in
    (c.requires.0.sized.long, w.long, omega arith, omega (arith, w.most))

pub returns-else-limit-k : goal.returns-else-limit-k
returns-else-limit-k c =
    filled_variable c.requires.0 c.requires.1 (ap symbol c.in-Variable.is) (rw c.from-i.ensures at c.from-size.ensures) (rw c.from-i.ensures at c.from-start.ensures)
    (omega arith) (omega arith) c.copy.ensures
