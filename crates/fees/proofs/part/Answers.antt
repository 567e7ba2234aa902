-- `fees::part` meets its contract: a cent more or less fits. Assumes nothing.
use mir.Facts.{to_z-of_z}
use Rattle.fees.proofs.Values.{cut_back, no_cent, cent_less_fits, cent_more_fits, cent_less, cent_more}
use Rattle.fees.proofs.part.Goals as goal

pub overflow_sub-result : goal.overflow_sub-result
overflow_sub-result c =
    let e = cut_back c.args.net c.args.share c.requires (rw (to_z-of_z c.ranges.net) at c.cut-cents.ensures) in
    cent_less_fits c.args.amount c.args.net c.args.share c.requires e

pub overflow_add-result : goal.overflow_add-result
overflow_add-result c =
    let e = cut_back c.args.net c.args.share c.requires (rw (to_z-of_z c.ranges.net) at c.cut-cents.ensures) in
    cent_more_fits c.args.amount c.args.net c.args.share c.requires e

pub returns-then-amount-lt0 : goal.returns-then-amount-lt0
returns-then-amount-lt0 c =
    let e = cut_back c.args.net c.args.share c.requires (rw (to_z-of_z c.ranges.net) at c.cut-cents.ensures) in
    rw c.if-gets.true
    (cent_less c.args.amount c.args.net c.args.share c.requires e (rw (to_z-of_z c.ranges.amount) at c.if-amount-lt0.true))

pub returns-else-amount-lt0 : goal.returns-else-amount-lt0
returns-else-amount-lt0 c =
    let e = cut_back c.args.net c.args.share c.requires (rw (to_z-of_z c.ranges.net) at c.cut-cents.ensures) in
    rw c.if-gets.true
    (cent_more c.args.amount c.args.net c.args.share c.requires e (rw (to_z-of_z c.ranges.amount) at c.if-amount-lt0.false))

pub returns-else-gets : goal.returns-else-gets
returns-else-gets c =
    let e = cut_back c.args.net c.args.share c.requires (rw (to_z-of_z c.ranges.net) at c.cut-cents.ensures) in
    rw c.if-gets.false (no_cent c.args.amount c.args.net c.args.share c.requires e)
