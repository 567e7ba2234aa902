-- `rule::part_size` meets its contract. Assumes nothing.
use mathlib.Core.Path.{◌∙◌}
use native.Mathlib.Omega.{arith}
use Rattle.rule.proofs.Parts.{size_in, size_behind}
use Rattle.rule.proofs.part_size.Goals as goal

pub returns-then-offset-len : goal.returns-then-offset-len
returns-then-offset-len c =
    let a = c.args in c.size_at.ensures ∙ size_in a.symbols.now a.len (omega arith) a.offset (omega arith)

pub returns-else-offset-len : goal.returns-else-offset-len
returns-else-offset-len c = let a = c.args in size_behind a.symbols.now a.len (omega arith) a.offset (omega arith)
