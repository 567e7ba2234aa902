-- Answers of `write_operators`. Assumes nothing.
use native.Mathlib.Numerals.{unary_clauses}
use Rattle.writer.proofs.Operators.{operators_none, operators_more}
use mathlib.Core.Path.{refl, ◌∙◌}
use Prim.Native.Nat.{◌+◌, ◌-◌}
use native.Mathlib.Omega.{arith}
use Rattle.writer.proofs.write_operators.Goals as goal

pub loop-o-init : goal.loop-o-init
loop-o-init c = (omega arith, omega arith, refl, λ at' to' out' h. simp unary_clauses at h)

pub loop-o-preserved : goal.loop-o-preserved
loop-o-preserved c =
    let w = c.write_operator-places.ensures in (
      omega arith,
      omega arith,
      c.out-1.given ∙ c.loop-o.invariant.2,
      λ at' to' out' h. c.loop-o.invariant.3 at' to' out' (operators_more _ _ _ _ _ (c.args.n - (c.loop-o._o + 1)) _ _ _ (omega arith) w.0 h),
    )

pub returns : goal.returns
returns c =
    let l = c.loop-o in
    (l.invariant.3 _ _ _ (operators_none _ _ _ _ _ (omega arith)), omega arith)
