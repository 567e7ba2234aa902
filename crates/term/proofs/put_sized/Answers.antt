-- `term::put_sized` meets its contract: the size goes from the operator to where its last argument ends. Assumes nothing.
use mathlib.Core.Path.{refl, ap, ◌∙◌}
use Prim.Native.Nat.{ℕ, ◌+◌}
use native.Mathlib.Omega.{arith}
use lib.ListN.{length-set}
use Rattle.flat.specs.Sizes.{hop}
use Rattle.flat.proofs.Sizes.{hop_least}
use Rattle.symbol.specs.Record.{sizes}
use Rattle.term.proofs.put_sized.Goals as goal

pub argument-end-requires : goal.argument-end-requires
argument-end-requires c = let p = c.requires in (p.0, p.1, rw c.arity.ensures.0 p.2)

pub overflow_sub-end : goal.overflow_sub-end
overflow_sub-end c =
    let a = c.args in
    let h = hop_least (sizes a.symbols.now) c.arity.result (a.at + 1) in
    let e = c.argument-end.ensures in
    omega arith

pub make-requires : goal.make-requires
make-requires c =
    let a = c.args in
    let e = c.argument-end.ensures ∙ ap (λ (k : ℕ). hop (sizes a.symbols.now) k (a.at + 1)) c.arity.ensures.0 in
    omega arith

pub returns : goal.returns
returns c =
    let a = c.args in
    let e = c.argument-end.ensures ∙ ap (λ (k : ℕ). hop (sizes a.symbols.now) k (a.at + 1)) c.arity.ensures.0 in
    record {
      is = (c.make.result, refl, c.make.ensures.0, omega (arith, c.make.ensures.1), c.make.ensures.2);
      long = length-set a.symbols.now a.at c.make.result ∙ c.requires.0;
    }
