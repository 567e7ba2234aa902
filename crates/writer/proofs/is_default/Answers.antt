-- Answers of `is_default`. Assumes nothing.
use Rattle.writer.proofs.Lists.{default_short, default_start, default_more, default_differs, default_last}
use mathlib.Core.Path.{sym, ◌∙◌}
use Prim.Native.Nat.{◌+◌, ◌-◌}
use native.Mathlib.Omega.{arith}
use Rattle.writer.proofs.is_default.Goals as goal

pub returns-then-len-n : goal.returns-then-len-n
returns-then-len-n c =
    sym (default_short _ _ c.requires.1 c.requires.2 c.args.arity (λ e. c.if-len-n.true (omega arith)))

pub loop-i-init : goal.loop-i-init
loop-i-init c =
    (omega arith, default_start _ _ c.requires.1 c.requires.2 _ (c.index-n.result - 0) (omega arith))

pub returns-then-index-i : goal.returns-then-index-i
returns-then-index-i c =
    let n = c.index-n.result in
    sym (c.loop-i.invariant.1 ∙ default_differs _ _ c.requires.1 c.requires.2 c.loop-i.i (n - c.loop-i.i) (omega arith) (n - (c.loop-i.i + 1)) (omega arith)
    (λ e. c.if-index-i.true (omega arith)))

pub loop-i-preserved : goal.loop-i-preserved
loop-i-preserved c =
    let n = c.index-n.result in (
      omega arith,
      c.loop-i.invariant.1 ∙ default_more _ _ c.requires.1 c.requires.2 c.loop-i.i (n - c.loop-i.i) (omega arith) (n - (c.loop-i.i + 1)) (omega arith) (omega arith),
    )

pub returns : goal.returns
returns c =
    let n = c.index-n.result in
    sym (c.loop-i.invariant.1 ∙ default_last _ c.args.len c.requires.1 c.requires.2 c.loop-i.i (n - c.loop-i.i) (omega arith)
    n (omega arith) (omega arith) (omega arith))
