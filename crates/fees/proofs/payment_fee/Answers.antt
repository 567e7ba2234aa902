-- `fees::payment_fee` meets its contract: product and sum fit. Assumes nothing.
use mir.Facts.{to_z-of_z}
use Rattle.fees.proofs.Values.{factor, product_fits, payment_fits, payment_fee}
use Rattle.fees.proofs.payment_fee.Goals as goal

pub overflow_mul-result : goal.overflow_mul-result
overflow_mul-result c =
    product_fits c.args.amount c.args.rate c.requires.1 (to_z-of_z c.ranges.amount) (factor c.from.ensures c.requires.1)

pub overflow_add-result : goal.overflow_add-result
overflow_add-result c =
    payment_fits c.args.amount c.args.rate c.requires.0 c.requires.1 (to_z-of_z c.ranges.amount) (factor c.from.ensures c.requires.1)

pub returns : goal.returns
returns c =
    payment_fee c.args.amount c.args.rate c.requires.0 c.requires.1 (to_z-of_z c.ranges.amount) (factor c.from.ensures c.requires.1)
