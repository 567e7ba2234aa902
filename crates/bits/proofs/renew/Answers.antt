-- `bits::renew` meets its contract: the sums and products on the way stay below 2 ^ 24. Assumes nothing.
use mathlib.Core.Path.{◌≡◌}
use Prim.Native.Nat.{ℕ, ◌+◌, ◌-◌, ◌*◌, ◌/◌, ◌%◌, ◌^◌, ◌≤◌, ◌<◌}
use native.Mathlib.Nat.{mod-lt, lt_of_lt_of_le}
use native.Mathlib.Omega.{arith}
use lib.Pow.{pow_pos, pow_mono, shr_lt}
use Rattle.bits.proofs.Bytes.{three_lt}
use Rattle.bits.proofs.renew.Goals as goal

record Sizes (w v p q : ℕ) : Type 0 where
  upper : w / p / q * q + v < 2 ^ 24
  whole : (w / p / q * q + v) * p + w % p < 2 ^ 24

sizes : (w low n v p q : ℕ) → w < 2 ^ 24 → n + low ≤ 24 → v < 2 ^ n → p ≡ 2 ^ low → q ≡ 2 ^ n → Sizes w v p q
sizes w low n v p q h k lt e f =
    let r = 24 - (n + low) in
    let g : (r + n) + low ≡ 24 = omega arith in
    let z : w < 2 ^ ((r + n) + low) = rw g h in
    let both = three_lt r n low (w / 2 ^ low / 2 ^ n) v (w % 2 ^ low) (shr_lt r n (shr_lt (r + n) low z)) lt (mod-lt w (pow_pos low)) in
    rw (e, f) (record { upper = lt_of_lt_of_le both.0 (pow_mono {j = 24} (omega arith)); whole = rw g at both.1 })

known : (c : goal.After-power-q) → Sizes c.args.w c.args.v c.power-p.result c.power-q.result
known c =
    let a = c.args in
    sizes a.w a.low a.n a.v _ _ (omega arith) (omega arith) (omega arith) c.power-p.ensures.0 c.power-q.ensures.0

pub returns : goal.returns
returns c =
    let k = known c in
    (rw (c.power-p.ensures.0, c.power-q.ensures.0), omega arith)

pub overflow_mul-result : goal.overflow_mul-result
overflow_mul-result c = let k = known c in omega arith

pub overflow_add-result : goal.overflow_add-result
overflow_add-result c = let k = known c in omega arith

pub overflow_mul-result-2 : goal.overflow_mul-result-2
overflow_mul-result-2 c = let k = known c in omega arith

pub overflow_add-result-2 : goal.overflow_add-result-2
overflow_add-result-2 c = let k = known c in omega arith
