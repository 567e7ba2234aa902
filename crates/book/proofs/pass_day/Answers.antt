-- `book::pass_day` meets its contract: a field of 16 bits in a dated book, and nothing in another. Assumes nothing.
use mathlib.Core.Path.{refl}
use Rattle.refusal.proofs.Passing.{passed_up}
use Rattle.reader.proofs.Reading.{got, ran_out}
use Rattle.book.proofs.pass_day.Goals as goal

pub returns-then-not-dated : goal.returns-then-not-dated
returns-then-not-dated c = rw c.if-not-dated.true (record { is = refl })

pub returns-in_err-day : goal.returns-in_err-day
returns-in_err-day c =
    rw (passed_up c.from_residual.result c.from_residual.ensures.1)
    (rw c.if-not-dated.false (record { is = ran_out c.field.ensures c.in_err-day.was }))

pub returns : goal.returns
returns c =
    let g = got c.field.ensures c.in_ok-day.was in
    rw c.if-not-dated.false (record { is = (_, g.is, g.ends) })
