-- `writer::form_of` meets its contract. Assumes nothing.
use mathlib.Core.Path.{sym, ◌∙◌}
use native.Mathlib.Omega.{arith}
use Rattle.writer.proofs.form_of.Goals as goal

pub returns-then-is_dated : goal.returns-then-is_dated
returns-then-is_dated c = let e = sym c.is_dated.ensures ∙ c.if-is_dated.true in record { count = rw e; day = rw e; low = omega arith; short = omega arith }

pub returns : goal.returns
returns c = let e = sym c.is_dated.ensures ∙ c.if-is_dated.false in record { count = rw e; day = rw e; low = omega arith; short = omega arith }
