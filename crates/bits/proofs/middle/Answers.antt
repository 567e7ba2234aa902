-- `bits::middle` meets its contract: a remainder by 2 ^ n fits 16 bits. Assumes nothing.
use Prim.Native.Nat.{◌/◌, ◌^◌, ◌≤◌}
use native.Mathlib.Nat.{mod-lt}
use native.Mathlib.Omega.{arith}
use lib.Pow.{pow_mono}
use Rattle.bits.proofs.middle.Goals as goal

pub overflow_cast-result : goal.overflow_cast-result
overflow_cast-result c =
    let a = c.args in
    let k : 2 ^ a.n ≤ 2 ^ 16 = pow_mono {j = 16} (omega arith) in
    omega (arith, mod-lt (a.w / c.power.result) c.power-2.ensures.1)

pub returns : goal.returns
returns c = rw (c.power.ensures.0, c.power-2.ensures.0)
