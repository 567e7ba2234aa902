-- Answers of `put_term`. Assumes nothing.
use mathlib.Core.List.{List}
use mathlib.Core.Path.{◌≡◌, sym, ap, ap₂, ◌∙◌}
use Prim.Native.Nat.{ℕ, ◌+◌}
use native.Mathlib.Numerals.{add-one}
use native.Mathlib.Omega.{arith}
use lib.ListN.{length, take, set}
use lib.Seq.{paste, paste-zero, paste-suc}
use Rattle.symbol.specs.Record.{operator, operators}
use Rattle.symbol.proofs.Record.{front_length, operator_front}
use Rattle.stream.proofs.Puts.{put_all}
use Rattle.records.proofs.put_term.Goals as goal

pub loop-i-init : goal.loop-i-init
loop-i-init c =
    let a = c.args in
    paste-zero a.answers.now a.at (operators (take a.n a.symbols.now))

pub loop-i-preserved : goal.loop-i-preserved
loop-i-preserved c =
    let i : ℕ = c.loop-i.i in
    let ys : List ℕ = operators (take c.args.n c.args.symbols.now) in
    let long : length ys ≡ c.args.n = front_length operator c.args.n c.args.symbols.now (omega (arith, c.requires.0, c.told-symbols)) in
    ap₂ (λ (w : List ℕ) (x : ℕ). set w (c.args.at + i) x) c.loop-i.invariant
    (c.operator.ensures ∙ sym (operator_front c.args.n c.args.symbols.now i (omega arith)))
    ∙ paste-suc c.args.answers.now c.args.at ys i 0 (omega arith) (omega arith)
    ∙ ap (λ (k : ℕ). paste c.args.answers.now c.args.at ys k) (sym (add-one i))

pub returns : goal.returns
returns c =
    let l = c.loop-i in
    let ys : List ℕ = operators (take c.args.n c.args.symbols.now) in
    let e : l.i ≡ c.args.n = omega arith in
    put_all c.args.at c.args.n ys c.args.answers.now
    (sym (front_length operator c.args.n c.args.symbols.now (omega (arith, c.requires.0, c.told-symbols)))) c.requires.1
    (l.invariant ∙ ap (λ (k : ℕ). paste c.args.answers.now c.args.at ys k) e)
