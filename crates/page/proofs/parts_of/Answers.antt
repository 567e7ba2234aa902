-- `page::parts_of` meets its contract, by a law of the parts for each way out. Assumes nothing.
use native.Mathlib.Omega.{arith}
use Rattle.page.proofs.Input.{cut_first, cut_second, cut_rest, cut_day, cut_over, whole}
use Rattle.page.proofs.parts_of.Goals as goal

pub returns-in_err-book : goal.returns-in_err-book
returns-in_err-book c =
    rw c.from_residual.ensures (cut_first _ (rw c.in_err-book.was at c.part_end.ensures))

pub part_end-requires-2 : goal.part_end-requires-2
part_end-requires-2 c = (rw c.in_ok-book.was at c.part_end.ensures).within.1

pub returns-in_err-line : goal.returns-in_err-line
returns-in_err-line c =
    rw c.from_residual-in_err-line.ensures
    (cut_second _ (rw c.in_ok-book.was at c.part_end.ensures) (rw c.in_err-line.was at c.part_end-2.ensures))

pub returns-then-input-line-lt5 : goal.returns-then-input-line-lt5
returns-then-input-line-lt5 c =
    cut_rest _ (rw c.in_ok-book.was at c.part_end.ensures) (rw c.in_ok-line.was at c.part_end-2.ensures) (omega arith)

pub returns-in_err-day : goal.returns-in_err-day
returns-in_err-day c =
    rw c.from_residual-in_err-day.ensures
    (cut_day _ (rw c.in_ok-book.was at c.part_end.ensures) (rw c.in_ok-line.was at c.part_end-2.ensures) (omega arith)
    c.is_dated-dated.ensures (rw c.in_err-day.was at c.day_at.ensures))

pub returns-then-input-schedule-gt-SCHEDULE : goal.returns-then-input-schedule-gt-SCHEDULE
returns-then-input-schedule-gt-SCHEDULE c =
    cut_over _ (rw c.in_ok-book.was at c.part_end.ensures) (rw c.in_ok-line.was at c.part_end-2.ensures) (omega arith)
    c.is_dated-dated.ensures (rw c.in_ok-day.was at c.day_at.ensures) (omega arith)

pub returns : goal.returns
returns c =
    whole _ (rw c.in_ok-book.was at c.part_end.ensures) (rw c.in_ok-line.was at c.part_end-2.ensures) (omega arith)
    c.is_dated-dated.ensures (rw c.in_ok-day.was at c.day_at.ensures) (omega arith)
