-- Answers of `remainders`. Assumes nothing.
use mathlib.Core.List.{List, ◌++◌}
use mathlib.Core.Path.{◌≡◌, ap, ap₂, ◌∙◌}
use Prim.Native.Nat.{ℕ}
use native.Mathlib.Omega.{arith}
use lib.IntN.{ℤ, nat_abs}
use lib.ListN.{length, drop, set}
use mir.Facts.{to_z-of_z}
use Rattle.fees.specs.Fees as F
use Rattle.fees.proofs.Loops.{splits, in_range, set_next, nothing_yet, still_first, next_fits, next_kept, still_last}
use Rattle.fees.proofs.Values.{kept}
use Rattle.fees.proofs.remainders.Goals as goal

pub loop-i-init : goal.loop-i-init
loop-i-init c = (nothing_yet _ _, still_first _ _)

pub rest-requires : goal.rest-requires
rest-requires c =
    in_range _ c.args.shares.now c.loop-i.i (splits c.ranges.net c.requires)

pub cut-left-requires : goal.cut-left-requires
cut-left-requires c =
    in_range _ c.args.shares.now c.loop-i.i (splits c.ranges.net c.requires)

pub overflow_sub-left : goal.overflow_sub-left
overflow_sub-left c =
    next_fits (kept c.args.net) c.args.shares.now c.loop-i.i (splits c.ranges.net c.requires) c.loop-i-test.true
    c.loop-i.invariant.1 c.cut-left.ensures

pub loop-i-preserved : goal.loop-i-preserved
unfolding F.rest_of
loop-i-preserved c =
    let i = c.loop-i.i in (
      ap (λ (r : List ℕ). set r i c.rest.result) c.loop-i.invariant.0
          ∙ set_next (F.rest_of (kept c.args.net) c.args.shares.now) c.args.rests.now i c.rest.result (omega arith)
          c.rest.ensures,
      next_kept (kept c.args.net) c.args.shares.now i (splits c.ranges.net c.requires) (omega arith) c.loop-i.invariant.1 c.cut-left.ensures,
    )

pub returns : goal.returns
returns c =
    let ss = c.args.shares.now in
    let e : c.loop-i.i ≡ length ss = omega arith in
    record {
      cents =
          c.unsigned_abs.ensures.value
          ∙ ap nat_abs c.loop-i.invariant.1
          ∙ still_last _ ss c.loop-i.i (omega arith)
          ∙ ap (λ (z : ℤ). F.left z ss) (to_z-of_z c.ranges.net);
      written =
          c.loop-i.invariant.0
          ∙ ap₂ (λ (z : ℤ) (n : ℕ). F.listed (F.rest_of z ss) n ++ drop n c.args.rests.now) (to_z-of_z c.ranges.net) e;
    }
