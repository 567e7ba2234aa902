-- `point_reader::read_numbers` meets its contract, field by field. Assumes nothing.
use native.Mathlib.Omega.{arith}
use mathlib.Core.Path.{refl}
use Rattle.bits.proofs.Reading.{got, ran_out}
use Rattle.point_reader.proofs.Fields.{told, untold}
use Rattle.point_reader.proofs.Numbers.{units_out, budget_out, counts_none, symbols_out, head_read}
use Rattle.point_reader.proofs.read_numbers.Goals as goal

pub returns-in_err-n : goal.returns-in_err-n
returns-in_err-n c = rw c.from_residual.ensures (units_out (ran_out c.field.ensures c.in_err-n.was))

pub returns-in_err-budget : goal.returns-in_err-budget
returns-in_err-budget c =
    rw c.from_residual-in_err-budget.ensures (budget_out (got c.field.ensures c.in_ok-n.was) (untold c.field32.ensures c.in_err-budget.was))

pub returns-in_err-counts : goal.returns-in_err-counts
returns-in_err-counts c =
    rw c.from_residual-in_err-counts.ensures
    (counts_none (got c.field.ensures c.in_ok-n.was) (told c.field32.ensures c.in_ok-budget.was) (rw c.in_err-counts.was at c.read_counts.ensures))

pub returns-in_err-m : goal.returns-in_err-m
returns-in_err-m c =
    rw c.from_residual-in_err-m.ensures
    (symbols_out (got c.field.ensures c.in_ok-n.was) (told c.field32.ensures c.in_ok-budget.was)
    (rw c.in_ok-counts.was at c.read_counts.ensures)
    (ran_out c.field-2.ensures c.in_err-m.was))

pub overflow_cast-numbers : goal.overflow_cast-numbers
overflow_cast-numbers c = omega (arith, (told c.field32.ensures c.in_ok-budget.was).small)

pub returns : goal.returns
returns c =
    head_read (got c.field.ensures c.in_ok-n.was) (told c.field32.ensures c.in_ok-budget.was)
    (rw c.in_ok-counts.was at c.read_counts.ensures)
    (got c.field-2.ensures c.in_ok-m.was) (omega (arith, c.from.ensures)) refl (omega (arith, c.from-2.ensures))
