-- Answers of `read_units`. Assumes nothing.
use mathlib.Core.Path.{refl, ◌∙◌}
use native.Mathlib.Omega.{arith}
use Rattle.point_reader.proofs.Units.{empty_fit, uniting_start, uniting_more, uniting_none, uniting_all}
use borrow.Author.Rules.{rules}
use Rattle.point_reader.proofs.read_units.Goals as goal

pub loop-u-init : goal.loop-u-init
loop-u-init c = (refl, uniting_start (empty_fit c.requires.2 c.empty_stacks.ensures))

pub read_unit-requires : goal.read_unit-requires
read_unit-requires c = (search rules, omega (arith, c.loop-u-test.true, c.requires.1), c.loop-u.invariant.1.fit)

pub shape_of-work-in_err-p : goal.shape_of-work-in_err-p
shape_of-work-in_err-p c = c.read_unit.auto.work ∙ c.loop-u.invariant.0

pub returns-in_err-p : goal.returns-in_err-p
returns-in_err-p c =
    rw c.from_residual.ensures (uniting_none c.loop-u.invariant.1 _ c.loop-u-test.true (rw c.in_err-p.was at c.read_unit.ensures))

pub loop-u-preserved : goal.loop-u-preserved
loop-u-preserved c = (
  c.read_unit.auto.work ∙ c.loop-u.invariant.0,
  uniting_more c.loop-u.invariant.1 (rw c.in_ok-p.was at c.read_unit.ensures),
)

pub shape_of-work : goal.shape_of-work
shape_of-work c = c.loop-u.invariant.0

pub returns : goal.returns
returns c = uniting_all c.loop-u.invariant.1 _ (omega (arith, c.loop-u-test.false))
