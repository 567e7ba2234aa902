-- `rule::symbol_at` meets its contract. Assumes nothing.
use mathlib.Core.Path.{◌∙◌}
use native.Mathlib.Omega.{arith}
use lib.ListN.{take}
use Rattle.symbol.specs.Record.{operators}
use Rattle.rule.proofs.Parts.{operators_length, operator_in}
use Rattle.rule.proofs.Matches.{or_at, or_end}
use Rattle.rule.proofs.symbol_at.Goals as goal

pub returns-then-at-len : goal.returns-then-at-len
returns-then-at-len c =
    let a = c.args in
    let s = a.symbols.now in
    let l = operators_length s a.len (omega arith) in
    or_at a.at (operators (take a.len s)) c.operator_at.result (omega arith)
    (c.operator_at.ensures ∙ operator_in s a.len (omega arith) a.at (omega arith))

pub returns-else-at-len : goal.returns-else-at-len
returns-else-at-len c =
    let a = c.args in
    let s = a.symbols.now in
    let l = operators_length s a.len (omega arith) in
    or_end a.at (operators (take a.len s)) (omega arith)
