-- Answers of `rules_end`. Assumes nothing.
use Rattle.reader.proofs.Reading.{got, ran_out}
use Rattle.writer.proofs.Rules.{rules_none, rules_out_of_bits, rules_refused, rules_more}
use Prim.Native.Nat.{◌+◌, ◌-◌}
use native.Mathlib.Omega.{arith}
use native.Mathlib.Numerals.{unary_clauses}
use Rattle.writer.proofs.rules_end.Goals as goal

pub loop-i-init : goal.loop-i-init
loop-i-init c = (omega arith, λ end h. simp unary_clauses at h)

pub returns-in_default : goal.returns-in_default
returns-in_default c =
    let l = c.loop-i in
    l.invariant.1 _ (rules_out_of_bits _ _ _ _ _ _ (c.args.m - (l._i + 1)) (omega arith) _ (ran_out c.field.ensures c.in_default.is))

pub returns-in_default-read_rule : goal.returns-in_default-read_rule
returns-in_default-read_rule c =
    let l = c.loop-i in
    l.invariant.1 _
    (rules_refused _ _ _ _ _ _ (c.args.m - (l._i + 1)) (omega arith) _ _ (got c.field.ensures c.in-Ok.is) _ _
    (rw c.in_default-read_rule.is at c.read_rule.ensures))

pub loop-i-preserved : goal.loop-i-preserved
loop-i-preserved c =
    let l = c.loop-i in (
      omega arith,
      λ end h. l.invariant.1 end
          (rules_more _ _ _ _ _ _ (c.args.m - (l._i + 1)) (omega arith) _ _ (got c.field.ensures c.in-Ok.is) _ _
          (rw c.in-Ok-read_rule.is at c.read_rule.ensures) h),
    )

pub returns : goal.returns
returns c =
    let l = c.loop-i in
    l.invariant.1 _ (rules_none _ _ _ _ _ _ (omega arith))
