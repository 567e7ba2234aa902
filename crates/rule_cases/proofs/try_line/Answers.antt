-- `rule_cases::try_line` meets its contract: a sound line is a present term. Assumes nothing.
use mathlib.Core.Path.{sym, ap, ◌∙◌}
use native.Mathlib.Omega.{arith}
use borrow.Author.Rules.{rules}
use Rattle.tables.specs.Layout.{arity_in}
use Rattle.line.specs.Line.{told}
use Rattle.line.proofs.Checking.{sound_known}
use Rattle.rule_cases.proofs.Laws.{one_term, present}
use Rattle.rule_cases.proofs.try_line.Goals as goal

pub load-len-requires : goal.load-len-requires
load-len-requires c =
    let a = c.args in
    ((sound_known a.n (arity_in a.operators.now) _ (sym c.check_line.ensures ∙ ap told c.in-Ok.is)).1, search rules)

pub load-requires : goal.load-requires
load-requires c =
    let e = c.load-len.ensures in
    let all = (sound_known c.args.n (arity_in c.args.operators.now) _ (sym c.check_line.ensures ∙ ap told c.in-Ok.is)).1 in
    (search rules, e.2, omega arith, rw e.1 (one_term _ c.requires.1 c.requires.2 (sym (ap told c.in-Ok.is) ∙ c.check_line.ensures)))

pub try_rewrite-requires : goal.try_rewrite-requires
try_rewrite-requires c =
    let e = c.load-len.ensures in
    present _ c.requires.1 c.requires.2 (sym (ap told c.in-Ok.is) ∙ c.check_line.ensures) _ _ c.requires.0 e.0 (rw e.1 at c.load.ensures)
    (omega (arith, c.if-len-offset.false, c.if-len-offset-2.false))
