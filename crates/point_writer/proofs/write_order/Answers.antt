-- Answers of `write_order`. Assumes nothing.
use mathlib.Core.Path.{refl, ◌∙◌}
use Prim.Native.Nat.{◌-◌}
use native.Mathlib.Omega.{arith}
use Rattle.point_writer.proofs.Puts.{put_none, put_as, put_both}
use Rattle.point_writer.proofs.Fields.{order_end, order_fits, order_more, order_bits}
use Rattle.point_writer.proofs.write_order.Goals as goal

pub loop-k-init : goal.loop-k-init
loop-k-init c = (omega arith, omega arith, refl, rw c.from-k.ensures c.requires.0.units, λ out' r h. h)

pub emit-to-requires-in-loop-k : goal.emit-to-requires-in-loop-k
emit-to-requires-in-loop-k c =
    let l = c.loop-k in
    let e = c.emit-to.ensures in
    let o = c.from-k.ensures in
    let f = c.requires.0.fits.few in (
      omega arith,
      (order_fits _ l.k (l.k - 1) (omega arith) l.invariant.3).0,
      record { bits = omega (arith, e.1, e.0.long); short = omega (arith, e.0.long) },
    )

pub loop-k-preserved : goal.loop-k-preserved
loop-k-preserved c =
    let e = c.emit-to-in-loop-k.ensures in
    let k = c.loop-k.k in (
      omega arith,
      omega (arith, e.1),
      e.0.long ∙ c.loop-k.invariant.2,
      (order_fits _ k (k - 1) (omega arith) c.loop-k.invariant.3).1,
      λ out' r h. c.loop-k.invariant.4 out' r (put_as (order_more _ k (k - 1) (omega arith)) (put_both e.0 h)),
    )

pub returns : goal.returns
returns c =
    let l = c.loop-k in
    let o = c.from-k.ensures in
    let e = c.emit-to.ensures in
    let f = c.requires.0.fits.few in (
      put_as (order_bits c.args.order.now _ o) (put_both e.0 (l.invariant.4 _ _ (put_as (order_end _ l.k (omega arith)) (put_none _ _ (omega (arith, e.1, e.0.long)))))),
      omega (arith, e.1),
    )
