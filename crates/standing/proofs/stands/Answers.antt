-- `standing::stands` meets its contract, by the laws of Rules. Assumes nothing.
use mathlib.Core.Path.{refl}
use Prim.Native.Nat.{◌+◌}
use native.Mathlib.Omega.{arith}
use Rattle.standing.specs.Dates.{rules_of}
use Rattle.standing.proofs.Rules.{number_small, left_before, day_is, stands_late, stands_not, stands_unless, behind_all}
use Rattle.standing.proofs.stands.Goals as goal

pub left_side-requires : goal.left_side-requires
left_side-requires c = let p = c.requires in omega (arith, number_small p.0 c.args.i (omega (arith, p.2, p.3)))

pub day_before-own-requires : goal.day_before-own-requires
day_before-own-requires c =
    let p = c.requires in
    (p.0.short, (left_before p.0 c.args.i (omega (arith, p.2, p.3)) _ _ c.left_side.ensures.0 refl).2)

pub returns-then-day-own : goal.returns-then-day-own
returns-then-day-own c =
    let p = c.requires in
    let e = day_is p.0 c.args.i (omega (arith, p.2, p.3)) _ _ c.left_side.ensures.0 c.day_before-own.ensures in
    stands_late _ _ _ _ (rw e at c.if-day-own.true)

pub replaced-requires : goal.replaced-requires
replaced-requires c = let p = c.requires in (p.0, p.1, omega (arith, p.2, p.3), omega (arith, p.2, p.3))

pub replaced-requires-2 : goal.replaced-requires-2
replaced-requires-2 c =
    let p = c.requires in (p.0, p.1, omega (arith, p.2, p.3), omega (arith, p.2))

pub returns-then-replaced : goal.returns-then-replaced
returns-then-replaced c =
    let p = c.requires in
    let e = day_is p.0 c.args.i (omega (arith, p.2, p.3)) _ _ c.left_side.ensures.0 c.day_before-own.ensures in
    stands_not _ _ _ _ c.day_before-own.result _ e (omega (arith, c.if-day-own.false)) refl c.if-replaced.true c.replaced.ensures

pub returns : goal.returns
returns c =
    let p = c.requires in
    let e = day_is p.0 c.args.i (omega (arith, p.2, p.3)) _ _ c.left_side.ensures.0 c.day_before-own.ensures in
    stands_unless _ _ _ _ c.day_before-own.result _ e (omega (arith, c.if-day-own.false)) refl c.if-replaced.false c.replaced.ensures
    (behind_all (rules_of c.args.book.now) c.args.m (c.args.i + 1) p.2) c.replaced-2.ensures
