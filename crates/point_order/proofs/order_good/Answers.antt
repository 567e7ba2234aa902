-- Answers of `order_good`. Assumes nothing.
use mathlib.Core.Path.{◌≡◌, refl, sym, ap, ◌∙◌}
use mathlib.Core.List.{List}
use Prim.Native.Nat.{ℕ, ◌+◌, ◌-◌, ◌<◌}
use lib.ListN.{get_or}
use native.Mathlib.Omega.{arith}
use Rattle.units.specs.Stacks.{store}
use Rattle.placing.specs.Order.{latest_first}
use Rattle.point_order.specs.Passing.{passes}
use Rattle.point_order.proofs.Order.{order_decided}
use Rattle.point_order.proofs.Loops.{tops_fit, passes_stop, passes_next, passes_end}
use Rattle.point_order.proofs.order_good.Goals as goal

-- the place below k and one more is k
at_place : (order : List ℕ) (k : ℕ) → 0 < k → {v : ℕ} → v ≡ get_or order (k - 1 + 1) 0 → v ≡ get_or order k 0
at_place order k l e = let z : k - 1 + 1 ≡ k = omega arith in e ∙ ap (λ (i : ℕ). get_or order i 0) z

pub heights-requires : goal.heights-requires
heights-requires c =
    let p = c.requires in
    (refl, λ u l. omega (arith, p.0.placed u l))

pub loop-k-init : goal.loop-k-init
loop-k-init c =
    let p = c.requires in (
      omega (arith, c.from-k.ensures, p.2.few),
      tops_fit p.0 c.heights.ensures,
      c.heights.ensures,
      ap (λ (k : ℕ). passes (store c.args.work.now c.args.cells.now) c.args.units c.heights.new.tops (latest_first c.args.order.now k)) (sym c.from-k.ensures),
    )

pub take_part-requires : goal.take_part-requires
take_part-requires c =
    let p = c.requires in
    (p.0, p.1, c.loop-k.invariant.1)

pub returns-then-not-take_part : goal.returns-then-not-take_part
returns-then-not-take_part c =
    let v = c.loop-k.invariant in
    order_decided c.requires.0 c.requires.1 v.2
    (sym (v.3 ∙ passes_stop (store c.args.work.now c.args.cells.now) c.args.units c.loop-k.tops c.args.order.now c.loop-k.k _
    (at_place c.args.order.now c.loop-k.k (omega arith) c.from.ensures) (omega arith) c.take_part.ensures c.if-not-take_part.true))

pub loop-k-preserved : goal.loop-k-preserved
loop-k-preserved c =
    let v = c.loop-k.invariant in (
      omega (arith, v.0),
      c.take_part.ensures.fit,
      v.2,
      v.3 ∙ passes_next (store c.args.work.now c.args.cells.now) c.args.units c.loop-k.tops c.args.order.now c.loop-k.k _
          (at_place c.args.order.now c.loop-k.k (omega arith) c.from.ensures) (omega arith) c.take_part.ensures c.if-not-take_part.false,
    )

pub none_left-requires : goal.none_left-requires
none_left-requires c =
    let p = c.requires in
    (p.0.regions.bytes, p.1, c.loop-k.invariant.1)

pub returns : goal.returns
returns c =
    let v = c.loop-k.invariant in
    order_decided c.requires.0 c.requires.1 v.2
    (c.none_left.ensures
    ∙ sym (v.3 ∙ passes_end (store c.args.work.now c.args.cells.now) c.args.units c.loop-k.tops c.args.order.now c.loop-k.k (omega arith)))
