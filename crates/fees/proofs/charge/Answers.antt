-- `fees::charge` meets its contract: the amount first. Assumes nothing.
use native.Mathlib.Omega.{arith}
use mir.Facts.{to_z-of_z}
use Rattle.fees.proofs.Answers.{refused_as, outside, inside}
use Rattle.fees.proofs.charge.Goals as goal

pub returns-then-unsigned_abs-gt-MOST : goal.returns-then-unsigned_abs-gt-MOST
returns-then-unsigned_abs-gt-MOST c =
    refused_as (outside _ _ c.args.amount _ (omega (arith, rw (to_z-of_z c.ranges.amount) at c.unsigned_abs.ensures.value)))

pub charge_by-requires : goal.charge_by-requires
charge_by-requires c = omega (arith, c.unsigned_abs.ensures.value)

pub returns : goal.returns
returns c =
    let p = to_z-of_z c.ranges.amount in
    let w = rw p at c.unsigned_abs.ensures.value in
    rw (inside c.args.term.now c.args.rates.now c.args.amount c.args.shares.now (omega (arith, w)))
    (rw (p, c.root_rate.ensures) at c.charge_by.ensures)
