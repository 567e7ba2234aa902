-- `fees::fee` meets its contract, for each sign. Assumes nothing.
use native.Mathlib.Omega.{arith}
use mir.Facts.{to_z-of_z}
use Rattle.fees.proofs.Values.{turned_fits, turned_kept, positive_turned, positive, range_turned, fee_kept, refund_fits, refund_kept}
use Rattle.fees.proofs.fee.Goals as goal

pub overflow_sub-amount : goal.overflow_sub-amount
overflow_sub-amount c = turned_fits (to_z-of_z c.ranges.amount) (omega (arith, c.requires.size))

pub payment_fee-requires : goal.payment_fee-requires
payment_fee-requires c =
    let e = turned_kept (to_z-of_z c.ranges.amount) (omega (arith, c.requires.size)) in
    rw e (positive_turned c.args.amount (rw (to_z-of_z c.ranges.amount) at c.if-amount-lt0.true), range_turned c.args.amount c.args.rate c.requires)

pub overflow_sub-result : goal.overflow_sub-result
overflow_sub-result c =
    let e = turned_kept (to_z-of_z c.ranges.amount) (omega (arith, c.requires.size)) in
    refund_fits c.args.amount c.args.rate c.requires (rw e at c.payment_fee.ensures)

pub payment_fee-requires-else-amount-lt0 : goal.payment_fee-requires-else-amount-lt0
payment_fee-requires-else-amount-lt0 c =
    rw (to_z-of_z c.ranges.amount) (positive c.args.amount (rw (to_z-of_z c.ranges.amount) at c.if-amount-lt0.false), c.requires)

pub returns-then-amount-lt0 : goal.returns-then-amount-lt0
returns-then-amount-lt0 c =
    let e = turned_kept (to_z-of_z c.ranges.amount) (omega (arith, c.requires.size)) in
    refund_kept c.args.amount c.args.rate c.requires (rw e at c.payment_fee.ensures)

pub returns-else-amount-lt0 : goal.returns-else-amount-lt0
returns-else-amount-lt0 c =
    fee_kept c.args.amount c.args.rate c.requires (rw (to_z-of_z c.ranges.amount) at c.payment_fee-else-amount-lt0.ensures)
