-- Answers of `all_linear`. Assumes nothing.
use mathlib.Core.Path.{refl, sym, ◌∙◌}
use native.Mathlib.Omega.{arith}
use Rattle.strict.proofs.Books.{linear_read}
use Rattle.strict.proofs.Rules.{linear_next, linear_stops, linear_ends}
use Rattle.strict.proofs.all_linear.Goals as goal

pub loop-i-init : goal.loop-i-init
loop-i-init c = refl

pub left_side-requires : goal.left_side-requires
left_side-requires c =
    let p = c.requires in
    let f = p.0.tables.good.few_rules in
    let t = c.loop-i-test.true in
    let e = p.2 in
    omega arith

pub returns-then-not-is_linear : goal.returns-then-not-is_linear
returns-then-not-is_linear c =
    let p = c.requires in
    let t = c.loop-i-test.true in
    let e = p.2 in
    sym (c.loop-i.invariant ∙ linear_stops _ c.loop-i.i (omega arith)
    (linear_read p.0 _ _ _ (omega arith) c.left_side.ensures.0 c.is_linear.ensures ∙ c.if-not-is_linear.true))

pub loop-i-preserved : goal.loop-i-preserved
loop-i-preserved c =
    let p = c.requires in
    let t = c.loop-i-test.true in
    let e = p.2 in
    c.loop-i.invariant ∙ linear_next _ c.loop-i.i (omega arith)
    (linear_read p.0 _ _ _ (omega arith) c.left_side.ensures.0 c.is_linear.ensures ∙ c.if-not-is_linear.false)

pub returns : goal.returns
returns c =
    let t = c.loop-i-test.false in
    let e = c.requires.2 in
    sym (c.loop-i.invariant ∙ linear_ends _ c.loop-i.i (omega arith))
