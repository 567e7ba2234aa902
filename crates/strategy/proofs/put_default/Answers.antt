-- Answers of `put_default`. Assumes nothing.
use mathlib.Core.Path.{◌∙◌}
use Prim.Native.Nat.{◌+◌, ◌-◌}
use native.Mathlib.Omega.{arith}
use lib.ListN.{length-set}
use Rattle.strategy.proofs.Front.{default_more, default_end, default_start}
use Rattle.strategy.proofs.put_default.Goals as goal

pub loop-i-init : goal.loop-i-init
loop-i-init c =
    let n = c.index-n.result in
    (omega arith, c.requires.1, default_start c.args.arity (n - 0) (omega arith))

pub loop-i-preserved : goal.loop-i-preserved
loop-i-preserved c =
    let n = c.index-n.result in (
      omega arith,
      simp length-set c.loop-i.invariant.1,
      c.loop-i.invariant.2 ∙ default_more _ c.loop-i.i (n - c.loop-i.i) c.loop-i.invariant.1 (omega arith)
          (n - (c.loop-i.i + 1)) _ (omega arith) c.byte.ensures,
    )

pub returns : goal.returns
returns c =
    let n = c.index-n.result in
    (default_end _ c.loop-i.i (n - c.loop-i.i) c.loop-i.invariant.1 (omega arith) _ n c.loop-i.invariant.2 (omega arith) (omega arith), omega arith)
