-- `point_reader::read_unit` meets its contract, by the laws of Units. Assumes nothing.
use mathlib.Core.Path.{refl}
use native.Mathlib.Omega.{arith}
use Rattle.bits.proofs.Reading.{got, got_as, ran_out}
use Rattle.point_reader.proofs.Units.{rank_out, height_out, too_high, unit_taken}
use borrow.Author.Rules.{rules}
use Rattle.point_reader.proofs.read_unit.Goals as goal

pub returns-in_err-rank : goal.returns-in_err-rank
returns-in_err-rank c = rw c.from_residual.ensures (rank_out c.requires.2 (ran_out c.field.ensures c.in_err-rank.was))

pub returns-in_err-h : goal.returns-in_err-h
returns-in_err-h c =
    rw c.from_residual-in_err-h.ensures (height_out c.requires.2 (got c.field.ensures c.in_ok-rank.was) (ran_out c.field-2.ensures c.in_err-h.was))

pub returns-then-height-gt-HEIGHT : goal.returns-then-height-gt-HEIGHT
returns-then-height-gt-HEIGHT c =
    too_high c.requires.2 (got c.field.ensures c.in_ok-rank.was) (got_as (got c.field-2.ensures c.in_ok-h.was) c.from-height.ensures)
    c.if-height-gt-HEIGHT.true

pub store-requires : goal.store-requires
store-requires c =
    let g = got c.field.ensures c.in_ok-rank.was in
    (omega arith, record { rank = omega (arith, c.from.ensures, g.small); end = omega (arith, c.base_of-base.ensures, c.if-height-gt-HEIGHT.false, c.requires.1) })

pub read_stack-requires : goal.read_stack-requires
read_stack-requires c =
    (search rules, omega (arith, c.if-height-gt-HEIGHT.false), omega (arith, c.base_of-base.ensures, c.if-height-gt-HEIGHT.false, c.requires.1, c.requires.2.regions.bytes))

pub shape_of-work : goal.shape_of-work
shape_of-work c = c.read_stack.ensures.outside.size

pub returns : goal.returns
returns c =
    unit_taken c.requires.2 (got_as (got c.field.ensures c.in_ok-rank.was) c.from.ensures)
    (got_as (got c.field-2.ensures c.in_ok-h.was) c.from-height.ensures) _ _
    c.requires.1 (omega (arith, c.if-height-gt-HEIGHT.false)) c.base_of-base.ensures refl c.store.ensures c.read_stack.ensures
