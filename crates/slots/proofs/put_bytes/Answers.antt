-- Answers of `put_bytes`. Assumes nothing.
use mathlib.Core.List.{List}
use mathlib.Core.Path.{◌≡◌, refl, sym, ap, ◌∙◌}
use Prim.Native.Nat.{ℕ, ◌+◌}
use native.Mathlib.Numerals.{add-one}
use native.Mathlib.Omega.{arith}
use lib.ListN.{length, get_or, set, length-set}
use lib.Seq.{paste, paste-zero, paste-suc}
use Rattle.stream.proofs.Puts.{put_all}
use Rattle.slots.proofs.put_bytes.Goals as goal

pub loop-i-init : goal.loop-i-init
loop-i-init c = let a = c.args in (refl, paste-zero a.output.now a.at a.bytes.now)

pub loop-i-preserved : goal.loop-i-preserved
loop-i-preserved c =
    let a = c.args in
    let i : ℕ = c.loop-i.i in (
      length-set c.loop-i.output (a.at + i) _ ∙ c.loop-i.invariant.0,
      ap (λ (w : List ℕ). set w (a.at + i) (get_or a.bytes.now i 0)) c.loop-i.invariant.1
          ∙ paste-suc a.output.now a.at a.bytes.now i 0 (omega arith) (omega arith)
          ∙ ap (λ (k : ℕ). paste a.output.now a.at a.bytes.now k) (sym (add-one i)),
    )

pub shape_of-output : goal.shape_of-output
shape_of-output c = c.loop-i.invariant.0

pub returns : goal.returns
returns c =
    let l = c.loop-i in
    let a = c.args in
    let e : l.i ≡ length a.bytes.now = omega arith in
    put_all a.at (length a.bytes.now) a.bytes.now a.output.now refl (omega arith) (l.invariant.1 ∙ ap (paste a.output.now a.at a.bytes.now) e)
