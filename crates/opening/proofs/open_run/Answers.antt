-- `opening::open_run` meets its contract, by the laws of Behind. Assumes nothing.
use Rattle.opening.proofs.Behind.{none_loaded, of_point, not_padded, told}
use Rattle.opening.proofs.open_run.Goals as goal

pub returns-in_err-run : goal.returns-in_err-run
returns-in_err-run c =
    let b = c.requires.1 in
    rw c.from_residual.ensures (record { is = λ B o. none_loaded o _ b.inside (rw c.in_err-run.was at c.load.ensures) })

pub returns-then-not-padded : goal.returns-then-not-padded
returns-then-not-padded c =
    let b = c.requires.1 in
    record { is = λ B o. not_padded o _ b.inside (rw c.in_ok-run.was at c.load.ensures) c.padded.ensures c.if-not-padded.true }

pub meets-requires : goal.meets-requires
meets-requires c =
    let b = c.requires.1 in
    record { book = b.book; is = of_point b.is _ b.inside (rw c.in_ok-run.was at c.load.ensures) }

pub returns : goal.returns
returns c =
    let b = c.requires.1 in
    record { is = λ B o. told o _ b.inside (rw c.in_ok-run.was at c.load.ensures) c.padded.ensures c.meets.ensures c.if-not-padded.false _ c.then_some.ensures }
