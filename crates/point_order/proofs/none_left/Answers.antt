-- Answers of `none_left`. Assumes nothing.
use mathlib.Core.Bool.{Bool, not}
use mathlib.Core.Path.{◌≡◌, refl, sym, ap, ◌∙◌}
use Prim.Native.Nat.{◌-◌}
use native.Mathlib.Omega.{arith}
use Rattle.std.specs.Prelude.{Option, Some, None, is_some}
use Rattle.point_order.specs.declared.Held.{Held}
use Rattle.point_order.specs.Passing.{part_of, is_none}
use Rattle.point_order.proofs.Tests.{below_next, below_stop, below_end}
use Rattle.point_order.proofs.Loops.{part_is}
use Rattle.point_order.proofs.none_left.Goals as goal

pub loop-v-init : goal.loop-v-init
loop-v-init c = (omega arith, refl)

pub highest_exit-requires : goal.highest_exit-requires
highest_exit-requires c =
    let p = c.requires in
    omega (arith, c.base_of.ensures, p.2.within (c.loop-v.v - 1))

-- none is found
none_not : (r : Option Held) (b : Bool) → b ≡ is_some r → is_none r ≡ not b
none_not (Some y) b e = rw e refl
none_not None b e = rw e refl

pub returns-then-is_some : goal.returns-then-is_some
returns-then-is_some c =
    let a = c.args in
    sym (c.loop-v.invariant.1
    ∙ below_stop (λ u. is_none (part_of a.work.now a.tops.now u)) c.loop-v.v _ (omega arith)
    (ap is_none (part_is a.work.now a.tops.now _ _ c.base_of.ensures c.highest_exit.ensures.0 refl)
    ∙ none_not c.highest_exit.result _ c.is_some.ensures ∙ ap not c.if-is_some.true))

pub loop-v-preserved : goal.loop-v-preserved
loop-v-preserved c =
    let a = c.args in (
      omega (arith, c.loop-v.invariant.0),
      c.loop-v.invariant.1
          ∙ below_next (λ u. is_none (part_of a.work.now a.tops.now u)) c.loop-v.v _ (omega arith)
          (ap is_none (part_is a.work.now a.tops.now _ _ c.base_of.ensures c.highest_exit.ensures.0 refl)
          ∙ none_not c.highest_exit.result _ c.is_some.ensures ∙ ap not c.if-is_some.false),
    )

pub returns : goal.returns
returns c =
    let a = c.args in
    sym (c.loop-v.invariant.1 ∙ below_end (λ u. is_none (part_of a.work.now a.tops.now u)) c.loop-v.v (omega arith))
