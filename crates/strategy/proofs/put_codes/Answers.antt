-- Answers of `put_codes`. Assumes nothing.
use mathlib.Core.Path.{refl}
use Prim.Native.Nat.{◌+◌, ◌-◌}
use native.Mathlib.Omega.{arith}
use Rattle.strategy.proofs.Codes.{left_start, left_more, left_end, placed_forks}
use Rattle.strategy.proofs.put_codes.Goals as goal

pub loop-i-init : goal.loop-i-init
loop-i-init c = (omega arith, omega arith, left_start _ _ _ c.args.len (c.args.len - 0) (omega arith))

pub put_code-at-requires : goal.put_code-at-requires
put_code-at-requires c =
    omega (arith, c.loop-i.invariant.2.ends)

pub loop-i-preserved : goal.loop-i-preserved
loop-i-preserved c =
    let p = c.place-p in (
      omega arith,
      omega (arith, placed_forks _ _ _ _ _ p.ensures),
      left_more c.loop-i.invariant.2 (c.args.len - (c.loop-i.i + 1)) _ _ _ _ _ (omega arith) (omega arith) refl refl p.ensures
          c.put_code-at.ensures.0 c.put_code-at.ensures.1,
    )

pub returns : goal.returns
returns c = left_end c.loop-i.invariant.2 (omega arith)
