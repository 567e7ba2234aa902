-- Answers of `hand_out`. Assumes nothing.
use mathlib.Core.List.{List, ◌++◌}
use mathlib.Core.Path.{◌≡◌, refl, sym, ap, ap₂, ◌∙◌}
use Prim.Native.Nat.{ℕ}
use native.Mathlib.Omega.{arith}
use lib.ListN.{length, take, drop, set, length-map, length-set}
use Rattle.symbol.specs.Record.{operator, operators}
use Rattle.symbol.proofs.Record.{operator_at, map_take}
use Rattle.engine.proofs.Copying.{copy_more}
use Rattle.engine.proofs.hand_out.Goals as goal

pub loop-i-init : goal.loop-i-init
loop-i-init c = (omega arith, refl, refl)

pub loop-i-preserved : goal.loop-i-preserved
loop-i-preserved c =
    let h = c.requires in
    let xs = c.args.symbols.now in
    let long : length (operators xs) ≡ 1024 = length-map xs operator ∙ h.0 in (
      omega arith,
      length-set c.loop-i.output c.loop-i.i _ ∙ c.loop-i.invariant.1,
      ap₂ (λ (w : List ℕ) (x : ℕ). set w c.loop-i.i x) c.loop-i.invariant.2 (c.operator.ensures ∙ sym (operator_at xs c.loop-i.i))
          ∙ copy_more (operators xs) c.args.output.now c.loop-i.i (omega arith) (omega arith),
    )

pub shape_of-output : goal.shape_of-output
shape_of-output c = c.loop-i.invariant.1

pub returns : goal.returns
returns c =
    let l = c.loop-i in
    let xs = c.args.symbols.now in
    let e : l.i ≡ c.args.n = omega arith in
    l.invariant.2 ∙ ap (λ (i : ℕ). take i (operators xs) ++ drop i c.args.output.now) e
    ∙ ap (λ (ys : List ℕ). ys ++ drop c.args.n c.args.output.now) (sym (map_take operator c.args.n xs))
