-- `fees::rest` meets its contract: the product and the remainder fit. Assumes nothing.
use mathlib.Core.Path.{◌∙◌}
use mir.Facts.{to_z-of_z}
use Rattle.fees.proofs.Values.{factor, product_fits, rest_size}
use Rattle.fees.proofs.rest.Goals as goal

pub overflow_mul-net : goal.overflow_mul-net
overflow_mul-net c =
    product_fits c.args.net c.args.share c.requires (to_z-of_z c.ranges.net) (factor c.from.ensures c.requires)

pub returns : goal.returns
returns c =
    c.unsigned_abs.ensures.value ∙ rest_size c.args.net c.args.share c.requires (to_z-of_z c.ranges.net) (factor c.from.ensures c.requires)
