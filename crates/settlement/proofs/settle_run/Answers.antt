-- `settlement::settle_run` meets its contract, for each answer. Assumes nothing.
use mir.Facts.{to_z-of_z}
use mir.Syntax.{w64}
use mir.Val.{SFits}
use borrow.Author.Rules.{rules}
use Rattle.refusal.proofs.Passing.{passed_up}
use Rattle.settlement.proofs.Answers.{ended_so, refused_so, posted_so}
use Rattle.settlement.proofs.settle_run.Goals as goal

pub returns-then-ne : goal.returns-then-ne
returns-then-ne c =
    ended_so c.args.term.now c.args.rates.now c.args.amount c.args.shares.now c.args.run (search rules)
    c.hand_out.ensures

pub returns-in_err-fee : goal.returns-in_err-fee
returns-in_err-fee c =
    rw (passed_up c.from_residual.result c.from_residual.ensures.1)
    (refused_so c.args.term.now c.args.rates.now c.args.amount c.args.shares.now c.args.run (search rules) _
    (rw (to_z-of_z c.ranges.amount, c.in_err-fee.was) at c.charge.ensures))

pub returns : goal.returns
returns c =
    let kept : SFits w64 c.in_ok-fee.fee = search rules in
    rw (to_z-of_z kept)
    (posted_so c.args.term.now c.args.rates.now c.args.amount c.args.shares.now c.args.run (search rules) _
    (rw (to_z-of_z c.ranges.amount, c.in_ok-fee.was) at c.charge.ensures) c.hand_out-2.ensures)
