-- Answers of `argument`. Assumes nothing.
use mathlib.Core.List.{List}
use mathlib.Core.Path.{◌≡◌, refl, sym, ◌∙◌}
use Prim.Native.Nat.{ℕ, ◌+◌, ◌-◌, ◌<◌}
use native.Mathlib.Omega.{arith}
use lib.ListN.{length, length-map}
use borrow.Author.Rules.{rules}
use Rattle.symbol.specs.Record.{sizes}
use Rattle.term.specs.Present.{Hops}
use Rattle.term.proofs.Hopping.{hop_none, hops_first, passed}
use Rattle.term.proofs.argument.Goals as goal

-- where each term begins is inside
within : (xs : List ℕ) (n p : ℕ) → 0 < n → Hops (sizes xs) n p → p < length xs
within xs n p h t = rw length-map at (hops_first (sizes xs) n p h t)

pub loop-init : goal.loop-init
loop-init c = let e : c.args.i - 0 ≡ c.args.i = omega arith in rw e (refl, c.requires.2)

pub offset_bounds-symbols-p : goal.offset_bounds-symbols-p
offset_bounds-symbols-p c =
    let l = c.loop in
    let h = within c.args.symbols.now (c.args.i - l.counter) l.p (omega arith) l.invariant.1 in
    search rules

pub bounds-symbols-p : goal.bounds-symbols-p
bounds-symbols-p c =
    let l = c.loop in
    let h = within c.args.symbols.now (c.args.i - l.counter) l.p (omega arith) l.invariant.1 in
    search rules

pub overflow_add-p-in-loop : goal.overflow_add-p-in-loop
overflow_add-p-in-loop c =
    let l = c.loop in
    let h = within c.args.symbols.now (c.args.i - l.counter) l.p (omega arith) l.invariant.1 in
    search rules

pub loop-preserved : goal.loop-preserved
loop-preserved c =
    let l = c.loop in
    let s = passed c.args.symbols.now (c.args.i - l.counter) l.p c.size-p.result (omega arith) c.size-p.ensures.0 l.invariant.1 in
    let e : c.args.i - (l.counter + 1) ≡ c.args.i - l.counter - 1 = omega arith in
    rw e (l.invariant.0 ∙ s.0, s.1)

pub returns : goal.returns
returns c =
    let l = c.loop in sym (hop_none _ (c.args.i - l.counter) l.p (omega arith)) ∙ sym l.invariant.0
