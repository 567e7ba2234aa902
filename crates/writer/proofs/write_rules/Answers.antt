-- `writer::write_rules` meets its contract, by the laws of Rules. Assumes nothing.
use mathlib.Core.Path.{ap₂, ◌∙◌}
use Prim.Native.Nat.{◌-◌}
use native.Mathlib.Omega.{arith}
use Rattle.reader.proofs.Reading.{got, ran_out}
use Rattle.writer.proofs.Rules.{rules_out, rules_copied}
use Rattle.writer.proofs.write_rules.Goals as goal

pub returns-in_default : goal.returns-in_default
returns-in_default c = (rules_out _ _ _ _ _ _ _ _ _ (ran_out c.field.ensures c.in_default.is), omega arith)

pub returns : goal.returns
returns c = (
  rules_copied _ _ _ _ _ _ _ _ _ _ _ _ _ _ (got c.field.ensures c.in-Ok.is) c.offset-m.ensures.0 c.rules_end-end.ensures
      (c.less-k.ensures ∙ ap₂ ◌-◌ c.left.ensures c.left-2.ensures) c.copy.ensures.0,
  omega arith,
)
