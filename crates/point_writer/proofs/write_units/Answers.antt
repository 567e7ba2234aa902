-- Answers of `write_units`. Assumes nothing.
use mathlib.Core.Path.{refl, ◌∙◌}
use Prim.Native.Nat.{◌+◌, ◌-◌}
use native.Mathlib.Numerals.{unary_clauses}
use native.Mathlib.Omega.{arith}
use Rattle.point_writer.proofs.Puts.{put_none, put_as, put_both}
use Rattle.point_writer.proofs.Fields.{units_end, units_fit, units_more}
use borrow.Author.Rules.{rules}
use Rattle.point_writer.proofs.write_units.Goals as goal

pub loop-u-init : goal.loop-u-init
loop-u-init c = (omega arith, omega arith, refl, simp unary_clauses c.requires.2, λ out' r h. simp unary_clauses at h)

pub write_unit-to-requires : goal.write_unit-to-requires
write_unit-to-requires c =
    let u = c.loop-u.u in
    (omega arith, c.requires.1, (units_fit _ _ u (c.args.n - u) (c.args.n - (u + 1)) (omega arith) c.loop-u.invariant.3).0, search rules)

pub loop-u-preserved : goal.loop-u-preserved
loop-u-preserved c =
    let e = c.write_unit-to.ensures in
    let u = c.loop-u.u in
    let n = c.args.n in (
      omega arith,
      omega (arith, e.1),
      e.0.long ∙ c.loop-u.invariant.2,
      (units_fit _ _ u (n - u) (n - (u + 1)) (omega arith) c.loop-u.invariant.3).1,
      λ out' r h. c.loop-u.invariant.4 out' r (put_as (units_more _ _ u (n - u) (n - (u + 1)) (omega arith)) (put_both e.0 h)),
    )

pub returns : goal.returns
returns c =
    let l = c.loop-u in
    (l.invariant.4 _ _ (put_as (units_end _ _ l.u (c.args.n - l.u) (omega arith)) (put_none _ _ (omega arith))), omega arith)
