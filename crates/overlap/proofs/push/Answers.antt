-- Answers of `push`. Assumes nothing.
use mathlib.Core.List.{List, ◌++◌}
use mathlib.Core.Path.{◌≡◌, sym, ap, refl}
use Prim.Native.Nat.{ℕ, ◌+◌, ◌-◌}
use native.Mathlib.Omega.{arith}
use lib.ListN.{drop}
use borrow.Author.Rules.{rules}
use Rattle.overlap.proofs.Walking.{pushed, upto_none}
use Rattle.overlap.proofs.push.Goals as goal

pub loop-i-init : goal.loop-i-init
loop-i-init c =
    let a = c.args in
    let e : a.top - a.n + a.n ≡ a.top = omega arith in
    (omega arith, c.requires.0, rw e (ap (λ (l : List ℕ). l ++ drop a.top a.stack.now) (sym (upto_none (a.base + a.n) (a.n - a.n) (omega arith)))))

pub loop-i-preserved : goal.loop-i-preserved
loop-i-preserved c =
    let i = c.loop-i in
    let a = c.args in
    let f = pushed i.stack (drop a.top a.stack.now) (a.top - a.n + i.i) (a.base + i.i) (a.n - i.i) (a.base + (i.i - 1)) (omega arith) (omega arith) (omega arith) (omega arith) i.invariant.2 in
    let g : a.base + i.i - 1 ≡ a.base + (i.i - 1) = omega arith in
    let h : a.n - i.i + 1 ≡ a.n - (i.i - 1) = omega arith in
    let k : a.top - a.n + i.i - 1 ≡ a.top - a.n + (i.i - 1) = omega arith in
    (omega arith, search rules, rw (g, h, k) at f)

pub returns : goal.returns
returns c =
    let i = c.loop-i in
    let a = c.args in
    let z : i.i ≡ 0 = omega arith in
    let e : a.top - a.n + i.i ≡ a.top - a.n = omega arith in
    let g : a.base + i.i ≡ a.base = omega arith in
    let h : a.n - i.i ≡ a.n = omega arith in
    (refl, i.invariant.1, rw (e, g, h) at i.invariant.2)
