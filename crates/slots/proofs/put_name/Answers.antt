-- `slots::put_name` meets its contract. Assumes nothing.
use native.Mathlib.Omega.{arith}
use lib.ListN.{length}
use Rattle.stream.proofs.Numbers.{length_bytes}
use Rattle.stream.proofs.Puts.{put_both}
use Rattle.slots.proofs.Slots.{name_put}
use Rattle.slots.proofs.put_name.Goals as goal

pub put_bytes-b-requires : goal.put_bytes-b-requires
put_bytes-b-requires c =
    let w = c.put_number-a.ensures in
    omega (arith, w.ends, w.long, length_bytes 1 (length c.args.name.now))

pub overflow_sub-b : goal.overflow_sub-b
overflow_sub-b c =
    omega (arith, c.put_bytes-b.ensures.ends, c.put_number-a.ensures.ends, length_bytes 1 (length c.args.name.now))

pub returns : goal.returns
returns c =
    let z = c.put_number.ensures in
    let b = c.put_bytes-b.ensures in
    let a = c.put_number-a.ensures in
    let n = c.args.name.now in
    name_put n _ _ _ _ (omega arith) (omega (arith, b.ends, a.ends, length_bytes 1 (length n))) (put_both a (put_both b z))
