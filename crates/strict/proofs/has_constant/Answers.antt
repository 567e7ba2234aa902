-- Answers of `has_constant`. Assumes nothing.
use mathlib.Core.List.{List}
use mathlib.Core.Path.{◌≡◌, refl, sym, ap, ◌∙◌}
use Prim.Native.Nat.{ℕ, ◌<◌}
use native.Mathlib.Omega.{arith}
use borrow.Author.Tests.{eq-eqb, ne_eqb}
use Rattle.paper.specs.Book.{Operator, arity_at}
use Rattle.side.specs.Promises.{AritiesIn}
use Rattle.tables.specs.Layout.{arity_in}
use Rattle.strict.proofs.Rules.{constant_next, constant_found, constant_none}
use Rattle.strict.proofs.has_constant.Goals as goal

-- the arity that is read
abbrev read : {operators : List ℕ} {n o b a : ℕ} {ops : List Operator} → AritiesIn ops n operators → o < n → b ≡ o → a ≡ arity_in operators b → a ≡ arity_at ops o
read {operators} h l e f = f ∙ ap (arity_in operators) e ∙ h.says _ l

pub loop-o-init : goal.loop-o-init
loop-o-init c = λ ops h. refl

pub returns-then-arity-eq0 : goal.returns-then-arity-eq0
returns-then-arity-eq0 c =
    let t = c.loop-o-test.true in
    record {
      is = λ ops h.
          let k = h.count in
          let e = read h t refl c.arity.ensures.0 in
          sym (c.loop-o.invariant ops h ∙ constant_found ops c.loop-o.o (omega arith) (eq-eqb _ _ (sym e ∙ c.if-arity-eq0.true)));
    }

pub loop-o-preserved : goal.loop-o-preserved
loop-o-preserved c =
    let t = c.loop-o-test.true in
    λ ops h.
    let k = h.count in
    let e = read h t refl c.arity.ensures.0 in
    c.loop-o.invariant ops h ∙ constant_next ops c.loop-o.o (omega arith) (ne_eqb _ _ (λ z. c.if-arity-eq0.false (e ∙ z)))

pub returns : goal.returns
returns c =
    let t = c.loop-o-test.false in
    record { is = λ ops h. let k = h.count in sym (c.loop-o.invariant ops h ∙ constant_none ops c.loop-o.o (omega arith)) }
