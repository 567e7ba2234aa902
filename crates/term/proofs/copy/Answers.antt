-- Answers of `copy`. Assumes nothing.
use mathlib.Core.List.{List}
use mathlib.Core.Path.{◌≡◌, ap, ◌∙◌}
use Prim.Native.Nat.{ℕ, ◌+◌, ◌-◌, ◌≤◌}
use native.Mathlib.Omega.{arith}
use native.Mathlib.Numerals.{add-one}
use lib.ListN.{length, drop, length-drop}
use lib.Seq.{paste, paste-zero, paste-suc, length-paste, get_or-drop}
use Rattle.term.specs.Promises.{Pasted}
use Rattle.term.proofs.copy.Goals as goal

-- all n are copied
pasted : (s : List ℕ) (at : ℕ) (p : List ℕ) (from n j : ℕ) (s' : List ℕ) → length s ≡ 1024 → length p ≡ 1024 →
    at + n ≤ 1024 → from + n ≤ 1024 → j ≡ n → s' ≡ paste s at (drop from p) j → Pasted s at p from n s'
pasted s at p from n j s' l k h m z e =
    let d : length (drop from p) ≡ length p - from = length-drop from p in
    let whole : s' ≡ paste s at (drop from p) n = e ∙ ap (paste s at (drop from p)) z in
    record { is = whole; long = ap length whole ∙ length-paste s at (drop from p) n (omega arith) (omega arith) ∙ l }

pub loop-j-init : goal.loop-j-init
loop-j-init c = paste-zero _ c.args.at (drop c.args.from c.args.part.now)

pub loop-j-preserved : goal.loop-j-preserved
loop-j-preserved c =
    let a = c.args in
    rw (c.loop-j.invariant, ← get_or-drop a.from a.part.now c.loop-j.j 0, add-one)
    (paste-suc a.symbols.now a.at (drop a.from a.part.now) c.loop-j.j 0 (omega arith) (rw length-drop (omega arith)))

pub returns : goal.returns
returns c =
    pasted _ c.args.at _ c.args.from c.args.n c.loop-j.j _ c.requires.0 c.requires.1 (omega arith) (omega arith) (omega arith) c.loop-j.invariant
