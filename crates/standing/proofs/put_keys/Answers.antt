-- Answers of `put_keys`. Assumes nothing.
use Prim.Native.Nat.{◌<◌}
use native.Mathlib.Omega.{arith}
use lib.ListN.{length}
use Rattle.standing.specs.Dates.{rules_of}
use Rattle.standing.proofs.Rules.{keys_more, number_small, left_before, key_is}
use Rattle.standing.proofs.put_keys.Goals as goal

pub loop-i-init : goal.loop-i-init
loop-i-init c = (omega arith, c.requires.2, λ j l. absurd (omega arith))

pub left_side-left-requires : goal.left_side-left-requires
left_side-left-requires c =
    let p = c.requires in
    omega (arith, number_small p.0 c.loop-i.i (omega (arith, p.1, c.loop-i-test.true)))

pub right_side-requires : goal.right_side-requires
right_side-requires c =
    let p = c.requires in
    omega (arith, number_small p.0 c.loop-i.i (omega (arith, p.1, c.loop-i-test.true)))

pub key_of-requires : goal.key_of-requires
key_of-requires c =
    let p = c.requires in
    let b = left_before p.0 c.loop-i.i (omega (arith, p.1, c.loop-i-test.true)) _ _ c.left_side-left.ensures.0 c.right_side.ensures.0 in
    (p.0.short, b.0, c.right_side.ensures.1)

pub loop-i-preserved : goal.loop-i-preserved
loop-i-preserved c =
    let p = c.requires in
    let bytes = c.args.book.now in
    let h : c.loop-i.i < length (rules_of bytes) = omega (arith, p.1, c.loop-i-test.true) in
    let (more, long) = keys_more bytes c.loop-i.keys c.loop-i.invariant.2 c.loop-i.invariant.1 (number_small p.0 c.loop-i.i h)
    (key_is p.0 h c.left_side-left.ensures.0 c.right_side.ensures.0 c.key_of.ensures) in
    (omega (arith, c.loop-i-test.true), long, more)

pub returns : goal.returns
returns c =
    let p = c.requires in
    record { each = λ j k. c.loop-i.invariant.2 j (omega (arith, p.1, c.loop-i-test.false)); long = c.loop-i.invariant.1 }
