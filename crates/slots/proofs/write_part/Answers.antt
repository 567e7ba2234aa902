-- `slots::write_part` meets its contract. Assumes nothing.
use mathlib.Core.Path.{refl}
use native.Mathlib.Omega.{arith}
use lib.ListN.{length}
use Rattle.stream.proofs.Numbers.{length_bytes}
use Rattle.stream.proofs.Puts.{put_both}
use Rattle.point.specs.Saved.{arrays, saved}
use Rattle.slots.proofs.Slots.{point_put}
use Rattle.slots.proofs.write_part.Goals as goal

pub put_number-b-requires : goal.put_number-b-requires
put_number-b-requires c =
    let a = c.put_number-a.ensures in
    omega (arith, a.ends, a.long, length_bytes 2 (length c.args.book.now), c.requires.1.room)

pub put_bytes-c-requires : goal.put_bytes-c-requires
put_bytes-c-requires c =
    let a = c.put_number-a.ensures in
    let b = c.put_number-b.ensures in
    omega (arith, a.ends, a.long, b.ends, b.long, length_bytes 2 (length c.args.book.now), length_bytes 2 c.from.result, c.requires.1.room)

pub save-requires : goal.save-requires
save-requires c =
    let a = c.put_number-a.ensures in
    let b = c.put_number-b.ensures in
    let p = c.put_bytes-c.ensures in
    let l₁ = length_bytes 2 (length c.args.book.now) in
    let l₂ = length_bytes 2 c.from.result in
    let r = c.requires.1 in
    let z = c.part-1.given in
    (c.requires.0, record { bits = omega (arith, a.ends, a.long, b.ends, b.long, p.ends, p.long); short = omega (arith, a.long, b.long, p.long) })

pub returns : goal.returns
returns c =
    let w = c.save.ensures in
    let p = c.put_bytes-c.ensures in
    let b = c.put_number-b.ensures in
    let a = c.put_number-a.ensures in
    point_put _ c.args.day _ c.args.book.now _ _ _
    (saved c.args.x (arrays c.args.symbols.now c.args.work.now c.args.cells.now c.args.order.now)) _ _ _
    c.clear.ensures c.from.ensures (put_both a (put_both b p)) refl w
    (λ i. omega (arith, c.shared_slice_known-1.given i)) (λ i. omega (arith, c.slice_known-6-1.given i))
