-- `fees::cut` meets its contract: the product fits, and so does the quotient. Assumes nothing.
use mir.Facts.{to_z-of_z}
use Rattle.fees.proofs.Values.{factor, product_fits, cut_kept}
use Rattle.fees.proofs.cut.Goals as goal

pub overflow_mul-result : goal.overflow_mul-result
overflow_mul-result c =
    product_fits c.args.net c.args.share c.requires (to_z-of_z c.ranges.net) (factor c.from.ensures c.requires)

pub returns : goal.returns
returns c =
    cut_kept c.args.net c.args.share c.requires (to_z-of_z c.ranges.net) (factor c.from.ensures c.requires)
