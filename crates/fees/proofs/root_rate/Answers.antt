-- `fees::root_rate` meets its contract, for each answer. Assumes nothing.
use native.Mathlib.Omega.{arith}
use mathlib.Core.Path.{◌∙◌}
use Rattle.fees.proofs.Loops.{no_root, rate_missing, rate_read}
use Rattle.fees.proofs.root_rate.Goals as goal

pub returns-in_err-first : goal.returns-in_err-first
returns-in_err-first c =
    let i = c.in_err-first.ensures.item in
    rw c.from_residual.ensures (no_root c.args.term.now c.args.rates.now (omega arith))

pub returns-then-rates-at : goal.returns-then-rates-at
returns-then-rates-at c =
    let i = c.in_ok-first.ensures.item in
    rate_missing c.args.term.now c.args.rates.now c.from-at.result (omega arith) (c.from-at.ensures ∙ i.3.1 0) c.if-rates-at.true

pub returns : goal.returns
returns c =
    let i = c.in_ok-first.ensures.item in
    rate_read c.args.term.now c.args.rates.now c.from-at.result (omega arith) (c.from-at.ensures ∙ i.3.1 0)
    (omega (arith, c.if-rates-at.false)) c.pair.result c.pair.ensures.0
