-- Answers of `replaced`. Assumes nothing.
use mathlib.Core.Path.{refl, sym, ◌∙◌}
use Prim.Native.Nat.{◌<◌}
use native.Mathlib.Omega.{arith}
use lib.ListN.{length}
use Rattle.standing.specs.Dates.{rules_of}
use Rattle.standing.proofs.Rules.{number_small, replaces_other, replaced_found, replaced_next, replaced_none}
use Rattle.standing.proofs.replaced.Goals as goal
use Rattle.standing.proofs.replaced.Goals.{else-keys-j-via-then-keys-j+else-replaces, else-keys-j-via-else-keys-j}

-- the number i is small
pub bounds-keys-i : goal.bounds-keys-i
bounds-keys-i c = let p = c.requires in omega (arith, number_small p.0 _ p.2, p.1.long)

pub offset_bounds-keys-i : goal.offset_bounds-keys-i
offset_bounds-keys-i c = let p = c.requires in omega (arith, number_small p.0 _ p.2)

pub loop-j-init : goal.loop-j-init
loop-j-init c = refl

pub offset_bounds-keys-j : goal.offset_bounds-keys-j
offset_bounds-keys-j c =
    let p = c.requires in
    omega (arith, number_small p.0 c.loop-j.j (omega (arith, p.3, c.loop-j-test.true)))

pub bounds-keys-j : goal.bounds-keys-j
bounds-keys-j c =
    let p = c.requires in
    omega (arith, number_small p.0 c.loop-j.j (omega (arith, p.3, c.loop-j-test.true)), p.1.long)

pub replaces-requires : goal.replaces-requires
replaces-requires c =
    let p = c.requires in
    let h : c.loop-j.j < length (rules_of c.args.book.now) = omega (arith, p.3, c.loop-j-test.true) in
    (p.0, p.2, h, sym (p.1.each c.loop-j.j h) ∙ c.if-keys-j.true ∙ p.1.each _ p.2)

pub returns-then-replaces : goal.returns-then-replaces
returns-then-replaces c =
    let p = c.requires in
    replaced_found _ _ _ _ _ _ p.3 c.loop-j-test.true c.if-replaces.true c.replaces.ensures c.loop-j.invariant

pub loop-j-preserved : goal.loop-j-preserved
loop-j-preserved c =
    let p = c.requires in
    let h : c.loop-j.j < length (rules_of c.args.book.now) = omega (arith, p.3, c.loop-j-test.true) in
    c.loop-j.invariant ∙ replaced_next _ _ _ _ _ _ p.3 c.loop-j-test.true
    (elim c.else-keys-j.branch [
      | else-keys-j-via-then-keys-j+else-replaces w ↦ sym w.replaces.ensures ∙ w.if-replaces.false
      | else-keys-j-via-else-keys-j w ↦ replaces_other _ _ _ _ (λ e. w.if-keys-j.false (p.1.each c.loop-j.j h ∙ e ∙ sym (p.1.each _ p.2)))
    ])

pub returns : goal.returns
returns c =
    let p = c.requires in
    replaced_none _ _ _ _ _ c.loop-j.j p.3 (omega (arith, c.loop-j-test.false)) c.loop-j.invariant
