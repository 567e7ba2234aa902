-- `orders::argument` meets its contract: it is `term::argument` but for the widths of numbers. Assumes nothing.
use native.Mathlib.Omega.{arith}
use Rattle.orders.proofs.argument.Goals as goal

pub argument-requires : goal.argument-requires
argument-requires c = let p = c.requires in rw (c.from.ensures, c.from-2.ensures) (c.told-symbols, p.0, p.1)

pub overflow_cast-result : goal.overflow_cast-result
overflow_cast-result c =
    let e = rw (c.from.ensures, c.from-2.ensures) at c.argument.ensures in
    omega (arith, e, c.requires.2)

pub returns : goal.returns
returns c =
    let e = rw (c.from.ensures, c.from-2.ensures) at c.argument.ensures in
    (e, omega (arith, e, c.requires.2))
