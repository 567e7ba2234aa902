-- `bits::power` meets its contract: the shift loses no bit. Assumes nothing.
use mathlib.Core.Path.{◌∙◌}
use native.Mathlib.Nat.{one-mul}
use native.Mathlib.Omega.{arith}
use lib.Pow.{shl_exact, pow_pos}
use Rattle.bits.proofs.power.Goals as goal

pub returns : goal.returns
returns c =
    let e = shl_exact 1 c.args.k 64 (omega arith) (omega arith) ∙ one-mul _ in
    (e, rw e (pow_pos c.args.k))
