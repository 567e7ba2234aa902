-- `rule::stands` meets its contract. Assumes nothing.
use mathlib.Core.Path.{sym, ◌∙◌}
use borrow.Author.Tests.{le-ltb}
use native.Mathlib.Omega.{arith}
use lib.ListN.{take}
use Rattle.symbol.specs.Record.{operators}
use Rattle.rule.proofs.Parts.{operators_length, operator_in}
use Rattle.rule.proofs.Matches.{head_at, head_end}
use Rattle.rule.proofs.stands.Goals as goal

pub returns-then-at-len : goal.returns-then-at-len
returns-then-at-len c =
    let a = c.args in
    let s = a.symbols.now in
    let l = operators_length s a.len (omega arith) in
    sym (head_at a.at (operators (take a.len s)) a.o c.operator_at.result (omega arith) (c.operator_at.ensures ∙ operator_in s a.len (omega arith) a.at (omega arith)))

pub returns-else-at-len : goal.returns-else-at-len
returns-else-at-len c =
    let a = c.args in
    let s = a.symbols.now in
    let l = operators_length s a.len (omega arith) in
    le-ltb a.at a.len c.if-at-len.false ∙ sym (head_end a.at (operators (take a.len s)) a.o (omega arith))
