-- Answers of `split`. Assumes nothing.
use mathlib.Core.List.{List, ◌++◌}
use mathlib.Core.Path.{◌≡◌, refl, ap, ap₂, ◌∙◌}
use Prim.Native.Nat.{ℕ}
use native.Mathlib.Omega.{arith}
use lib.IntN.{ℤ}
use lib.ListN.{length, drop, set}
use mir.Facts.{to_z-of_z}
use Rattle.fees.specs.Fees as F
use Rattle.fees.proofs.Loops.{splits, in_range, set_next, nothing_yet, part_at, part_kept}
use Rattle.fees.proofs.Values.{kept}
use Rattle.fees.proofs.split.Goals as goal

pub remainders-left-requires : goal.remainders-left-requires
remainders-left-requires c =
    splits c.ranges.net c.requires

pub loop-i-init : goal.loop-i-init
loop-i-init c = nothing_yet _ _

pub before-requires : goal.before-requires
before-requires c =
    (c.requires.few, c.loop-i-test.true)

pub part-requires : goal.part-requires
part-requires c =
    in_range _ c.args.shares.now c.loop-i.i (splits c.ranges.net c.requires)

pub loop-i-preserved : goal.loop-i-preserved
loop-i-preserved c =
    let i = c.loop-i.i in
    ap (λ (r : List ℤ). set r i (kept c.part.result)) c.loop-i.invariant
    ∙ set_next (F.part (kept c.args.amount) (kept c.args.net) c.args.shares.now) c.args.parts.now i (kept c.part.result) (omega arith)
    (part_kept (kept c.args.amount) (kept c.args.net) c.args.shares.now i (splits c.ranges.net c.requires) (c.part.ensures ∙
    part_at (kept c.args.amount) (kept c.args.net) c.args.shares.now _ _ c.remainders-left.ensures.written i
    c.remainders-left.result c.before-in-loop-i.result _ (omega arith) c.remainders-left.ensures.cents c.before-in-loop-i.ensures refl))

pub returns : goal.returns
unfolding F.parts
returns c =
    let ss = c.args.shares.now in
    let e : c.loop-i.i ≡ length ss = omega arith in
    c.loop-i.invariant
    ∙ ap (λ (n : ℕ). F.listed (F.part (kept c.args.amount) (kept c.args.net) ss) n ++ drop n c.args.parts.now) e
    ∙ ap₂ (λ (a n : ℤ). F.parts a n ss ++ drop (length ss) c.args.parts.now) (to_z-of_z c.ranges.amount) (to_z-of_z c.ranges.net)
