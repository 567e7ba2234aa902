-- `term::size_before` meets its contract: behind the first argument, the others are passed. Assumes nothing.
use mathlib.Core.List.{List}
use mathlib.Core.Path.{◌≡◌, sym, ap, ◌∙◌}
use Prim.Native.Nat.{ℕ, ◌+◌, ◌-◌, ◌≤◌, ◌<◌}
use native.Mathlib.Omega.{arith}
use lib.ListN.{length, get_or}
use Rattle.flat.specs.Sizes.{hop}
use Rattle.flat.proofs.Sizes.{hop_least}
use Rattle.symbol.specs.Record.{size, sizes}
use Rattle.tables.specs.Layout.{arity_in}
use Rattle.term.specs.Present.{Hops}
use Rattle.term.proofs.Hopping.{hop_none, passed}
use Rattle.term.proofs.size_before.Goals as goal

-- the first of the n arguments of the symbol at offset a is passed
record First (xs : List ℕ) (n a z : ℕ) : Type 0 where
  hop_is : hop (sizes xs) n (a + 1) ≡ hop (sizes xs) (n - 1) (a + z + 1)
  hops : Hops (sizes xs) (n - 1) (a + z + 1)
  within : a + z < 1024

-- k arguments by the table, n as read from it
first : (xs : List ℕ) (k n a z : ℕ) → n ≡ k → 0 < n →
    (length xs ≡ 1024) × (a < 1024) × Hops (sizes xs) k (a + 1) × (hop (sizes xs) k (a + 1) ≤ 1024) × (0 < k → z ≡ size (get_or xs (a + 1) 0)) →
    First xs n a z
first xs k n a z e h (_, _, t, m, b) =
    let s : a + z + 1 ≡ a + 1 + z = omega arith in
    let p = passed xs n (a + 1) z h (b (omega arith)) (rw e t) in
    let q : hop (sizes xs) n (a + 1) ≤ 1024 = rw e m in
    let l = hop_least (sizes xs) (n - 1) (a + 1 + z) in
    record { hop_is = rw s p.0; hops = rw s p.1; within = omega (arith, p.0) }

pub returns-then-n-eq0 : goal.returns-then-n-eq0
returns-then-n-eq0 c =
    let a = c.args in
    let e = hop_none (sizes a.symbols.now) (arity_in a.operators.now a.o) (a.at + 1) (sym c.arity-n.ensures.0 ∙ c.if-n-eq0.true) in
    omega arith

pub overflow_add-at : goal.overflow_add-at
overflow_add-at c =
    let a = c.args in
    let p = c.requires in
    let r = c.arity-n in
    omega (arith, (first a.symbols.now _ r.result a.at a.behind r.ensures.0 (omega (arith, c.if-n-eq0.false)) p).within)

pub argument-requires : goal.argument-requires
argument-requires c =
    let a = c.args in
    let p = c.requires in
    let r = c.arity-n in
    let f = first a.symbols.now _ r.result a.at a.behind r.ensures.0 (omega (arith, c.if-n-eq0.false)) p in
    (p.0, f.within, f.hops)

pub overflow_sub-result : goal.overflow_sub-result
overflow_sub-result c =
    let a = c.args in
    let r = c.arity-n in
    let h = hop_least (sizes a.symbols.now) (r.result - 1) (a.at + a.behind + 1) in
    let e = c.argument.ensures in
    omega arith

pub returns : goal.returns
returns c =
    let a = c.args in
    let p = c.requires in
    let r = c.arity-n in
    let f = first a.symbols.now _ r.result a.at a.behind r.ensures.0 (omega (arith, c.if-n-eq0.false)) p in
    let e = c.argument.ensures ∙ sym f.hop_is ∙ ap (λ (k : ℕ). hop (sizes a.symbols.now) k (a.at + 1)) r.ensures.0 in
    omega arith
