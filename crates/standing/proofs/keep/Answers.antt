-- Answers of `keep`. Assumes nothing.
use mathlib.Core.Path.{refl}
use Prim.Native.Nat.{◌<◌}
use native.Mathlib.Omega.{arith}
use lib.ListN.{length}
use Rattle.standing.specs.Dates.{rules_of}
use Rattle.standing.proofs.Rules.{number_small, keeping_none, keeping_more, keeping_same, keeping_all}
use Rattle.standing.proofs.keep.Goals as goal
use Rattle.standing.proofs.keep.Goals.{then-stands, else-stands}

pub put_keys-requires : goal.put_keys-requires
put_keys-requires c = let p = c.requires in (p.0, p.1, refl)

pub loop-i-init : goal.loop-i-init
loop-i-init c = (omega arith, keeping_none c.requires.0)

pub stands-requires : goal.stands-requires
stands-requires c =
    let p = c.requires in
    (p.0, c.put_keys.ensures, p.1, c.loop-i-test.true)

pub copy_sides-requires : goal.copy_sides-requires
copy_sides-requires c =
    let b = number_small c.requires.0 c.loop-i.i (omega arith) in
    (omega arith, omega (arith, c.loop-i.invariant.1.few))

pub overflow_add-k : goal.overflow_add-k
overflow_add-k c =
    let b = number_small c.requires.0 c.loop-i.i (omega arith) in
    omega (arith, c.loop-i.invariant.1.few)

pub loop-i-preserved : goal.loop-i-preserved
loop-i-preserved c =
    let p = c.requires in
    let n : c.loop-i.i < length (rules_of c.args.book.now) = omega arith in
    let K = c.loop-i.invariant.1 in (
      omega (arith, c.loop-i-test.true),
      (elim c.if-stands.branch [
        | then-stands w ↦
            rw (w.rules-is, w.k-is) (keeping_more p.0 K n w.if-stands.true c.stands.ensures w.copy_sides.ensures)
        | else-stands w ↦ rw (w.rules-is, w.k-is) (keeping_same p.0 K n w.if-stands.false c.stands.ensures)
      ]),
    )

pub returns : goal.returns
returns c =
    let p = c.requires in
    keeping_all p.0 c.loop-i.invariant.1 (omega (arith, p.1, c.loop-i-test.false)) c.offset-today.ensures.0
