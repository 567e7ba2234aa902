-- Answers of `read_symbols`. Assumes nothing.
use native.Mathlib.Omega.{arith}
use Rattle.bits.proofs.Reading.{got, ran_out}
use Rattle.point_reader.proofs.Term.{listing_start, listing_more, listing_out, listing_all}
use Rattle.point_reader.proofs.read_symbols.Goals as goal

pub loop-i-init : goal.loop-i-init
loop-i-init c = listing_start c.requires.2

pub returns-in_err-o : goal.returns-in_err-o
returns-in_err-o c = rw c.from_residual.ensures (listing_out c.loop-i.invariant _ c.loop-i-test.true (ran_out c.field.ensures c.in_err-o.was))

pub overflow_cast-line : goal.overflow_cast-line
overflow_cast-line c = record { fits = omega (arith, (got c.field.ensures c.in_ok-o.was).small) }

pub loop-i-preserved : goal.loop-i-preserved
loop-i-preserved c =
    listing_more c.loop-i.invariant _ _ (got c.field.ensures c.in_ok-o.was).is
    (omega (arith, c.requires.1, c.loop-i-test.true))

pub returns : goal.returns
returns c = listing_all c.loop-i.invariant _ (omega (arith, c.loop-i-test.false))
