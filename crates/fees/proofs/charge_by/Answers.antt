-- `fees::charge_by` meets its contract, check by check. Assumes nothing.
use mathlib.Core.Path.{sym, ap, ◌∙◌}
use mir.Facts.{to_z-of_z}
use Rattle.fees.specs.Fees as F
use Rattle.fees.specs.Promises as C
use Rattle.fees.proofs.Answers.{refused_as, charged_as, by_none, by_above, by_shares, by_all, parts_long, net_splits, net_fits, net_kept}
use Rattle.fees.proofs.Values.{fee_kept}
use Rattle.fees.proofs.charge_by.Goals as goal
use Rattle.fees.proofs.charge_by.Goals.{then-k-gt10000-via-then-k-gt10000, then-k-gt10000-via-else-k-gt10000+then-not-are_shares}

pub returns-in_default : goal.returns-in_default
returns-in_default c =
    refused_as (by_none c.args.amount c.args.shares.now (ap C.rate c.in_default.is))

pub returns-then-k-gt10000 : goal.returns-then-k-gt10000
returns-then-k-gt10000 c =
    let e = ap C.rate c.in-Some.is in
    elim c.then-k-gt10000.branch [
      | then-k-gt10000-via-then-k-gt10000 w ↦ refused_as (by_above c.args.amount c.args.shares.now c.in-Some.k e w.if-k-gt10000.true)
      | then-k-gt10000-via-else-k-gt10000+then-not-are_shares w ↦
          refused_as
          (by_shares c.args.amount c.args.shares.now c.in-Some.k e w.if-k-gt10000.false (sym w.are_shares.ensures ∙ w.if-not-are_shares.true))
    ]

pub fee-f-requires : goal.fee-f-requires
fee-f-requires c =
    rw (to_z-of_z c.ranges.amount) (record { size = c.requires; factor = c.if-k-gt10000.false })

pub overflow_sub-amount : goal.overflow_sub-amount
overflow_sub-amount c =
    let p = to_z-of_z c.ranges.amount in
    let r : C.InRange c.args.amount c.in-Some.k = record { size = c.requires; factor = c.if-k-gt10000.false } in
    net_fits c.args.amount c.in-Some.k r p (rw p at c.fee-f.ensures)

pub split-requires : goal.split-requires
split-requires c =
    let p = to_z-of_z c.ranges.amount in
    let r : C.InRange c.args.amount c.in-Some.k = record { size = c.requires; factor = c.if-k-gt10000.false } in
    rw (net_kept c.args.amount c.in-Some.k r p (rw p at c.fee-f.ensures))
    (net_splits c.args.amount c.in-Some.k r c.args.shares.now (sym c.are_shares.ensures ∙ c.if-not-are_shares.false))

pub returns : goal.returns
returns c =
    let ss = c.args.shares.now in
    let a = c.args.amount in
    let p = to_z-of_z c.ranges.amount in
    let r : C.InRange a c.in-Some.k = record { size = c.requires; factor = c.if-k-gt10000.false } in
    let e = rw p at c.fee-f.ensures in
    let n = net_kept a c.in-Some.k r p e in
    charged_as
    (by_all a ss c.in-Some.k (ap C.rate c.in-Some.is) r.factor (sym c.are_shares.ensures ∙ c.if-not-are_shares.false))
    (fee_kept a c.in-Some.k r e)
    (rw (parts_long a (F.net_of a c.in-Some.k) ss) (rw (n, p) at c.split.ensures))
