-- Answers of `put_number`. Assumes nothing.
use Rattle.stream.proofs.Puts.{byte_more, put_bytes}
use mathlib.Core.Path.{refl, ◌∙◌}
use Prim.Native.Nat.{◌-◌}
use native.Mathlib.Omega.{arith}
use lib.ListN.{length-set}
use Rattle.stream.proofs.put_number.Goals as goal

pub loop-i-init : goal.loop-i-init
loop-i-init c = (omega arith, refl, refl)

pub loop-i-preserved : goal.loop-i-preserved
loop-i-preserved c =
    let l = c.loop-i in (
      omega arith,
      simp length-set l.invariant.1,
      byte_more c.args.at l.i (l.i - 1) l.left l.output (omega arith) (omega arith) refl ∙ l.invariant.2,
    )

pub returns : goal.returns
returns c = let l = c.loop-i in put_bytes _ _ _ l.i l.left _ (omega arith) (omega arith) l.invariant.1 l.invariant.2
