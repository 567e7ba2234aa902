-- `rule::match_one` meets its contract. Assumes nothing.
use mathlib.Core.Path.{sym, ◌∙◌}
use native.Mathlib.Omega.{arith}
use Rattle.rule.proofs.Parts.{operators_length, part_true, part_in}
use Rattle.rule.proofs.Matches.{differs_at, step_same, step_variable, apart_at}
use Rattle.rule.proofs.match_one.Goals as goal

pub meet-requires : goal.meet-requires
meet-requires c =
    (rw c.in-Variable.is at c.symbol_at.ensures.small, part_in c.requires.1, c.requires.2)

pub returns-else-not-stands : goal.returns-else-not-stands
returns-else-not-stands c =
    let l = operators_length c.args.symbols.now c.args.len (omega arith) in
    step_same c.requires.2 _ _ _ (rw c.in-Operator.is at c.symbol_at.ensures) (sym c.stands.ensures ∙ c.if-not-stands.false)
    c.arity.ensures.0 c.arity.ensures.1 (omega arith)

pub returns-then-not-stands : goal.returns-then-not-stands
returns-then-not-stands c =
    differs_at _ _ _ _ _ _ (rw c.in-Operator.is at c.symbol_at.ensures) (sym c.stands.ensures ∙ c.if-not-stands.true)

pub returns-in_ok-size-in-Variable : goal.returns-in_ok-size-in-Variable
returns-in_ok-size-in-Variable c =
    step_variable (part_true c.requires.1) _ _ (rw c.in-Variable.is at c.symbol_at.ensures) c.in_ok-size-in-Variable.ensures

pub returns-in_err-size-in-Variable : goal.returns-in_err-size-in-Variable
returns-in_err-size-in-Variable c =
    rw c.from_residual.ensures
    (apart_at (part_true c.requires.1) _ _ (rw c.in-Variable.is at c.symbol_at.ensures) c.in_err-size-in-Variable.ensures)
