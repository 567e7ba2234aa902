-- Answers of `load`. Assumes nothing.
use mathlib.Core.List.{List, ◌++◌}
use mathlib.Core.Path.{◌≡◌, refl, ap, ◌∙◌}
use Prim.Native.Nat.{ℕ}
use native.Mathlib.Omega.{arith}
use lib.ListN.{length, get_or, take, drop, set}
use lib.Seq.{take-length}
use Rattle.engine.proofs.Copying.{copy_more}
use Rattle.engine.proofs.load.Goals as goal

pub loop-i-init : goal.loop-i-init
loop-i-init c = refl

pub loop-i-preserved : goal.loop-i-preserved
loop-i-preserved c =
    let h = c.requires in
    ap (λ (w : List ℕ). set w c.loop-i.i (get_or c.args.line.now c.loop-i.i 0)) c.loop-i.invariant
    ∙ copy_more c.args.line.now c.args.symbols.now c.loop-i.i (omega arith) (omega arith)

pub returns : goal.returns
returns c =
    let l = c.loop-i in
    let e : l.i ≡ length c.args.line.now = omega arith in
    l.invariant ∙ ap (λ (i : ℕ). take i c.args.line.now ++ drop i c.args.symbols.now) e
    ∙ ap (λ (w : List ℕ). w ++ drop (length c.args.line.now) c.args.symbols.now) (take-length c.args.line.now)
