-- `rule::match_left` meets its contract. Assumes nothing.
use mathlib.Core.Path.{◌≡◌, refl, sym, ap, ◌∙◌, subst}
use Prim.Native.Nat.{ℕ, ◌+◌}
use native.Mathlib.Omega.{arith}
use lib.ListN.{drop}
use Rattle.flat.specs.Symbols.{Binding}
use Rattle.tables.specs.Layout.{arity_in}
use Rattle.term.specs.Present.{operators_in}
use Rattle.term.proofs.Sized.{operators_length, operator_is}
use Rattle.rule.specs.Packed.{BindsWithin}
use Rattle.rule.specs.Promises.{head_or, UnderRoot}
use Rattle.rule.proofs.Bindings.{within_blank}
use Rattle.rule.proofs.Choices.{tried_rest, tried_other}
use Rattle.rule.proofs.match_left.Goals as goal
use Rattle.rule.proofs.match_left.Goals.{After-arity-due}

-- the term under its root
under : (n : After-arity-due) (x : ℕ) →
    let a = n.args in
    x ≡ head_or (drop (a.offset + 1) (operators_in a.symbols.now)) →
    UnderRoot a.operators.now (operators_in a.symbols.now) a.offset x n.arity-due.result
under n x e =
    let a = n.args in
    let p = n.requires in
    let o = a.operators.now in
    record {
      inside = omega (arith, p.3, operators_length _ a.symbols.now p.2);
      second = e;
      arguments = n.arity-due.ensures.0
          ∙ ap (λ (k : ℕ). arity_in o k) (n.operator_at.ensures ∙ operator_is _ a.symbols.now p.2 a.offset p.3);
      few = n.arity-due.ensures.1;
    }

pub returns-then-other_stands : goal.returns-then-other_stands
returns-then-other_stands c =
    tried_other (under (goal.at.returns-then-other_stands c).After-arity-due _ (rw c.length-len.ensures at c.symbol_at.ensures)) c.if-due-gt0.true (rw c.if-other_stands.true at c.other_stands.ensures)

pub match_rest-requires : goal.match_rest-requires
match_rest-requires c =
    let e = c.clear.ensures in
    let l = c.length-len in
    let p = c.requires in
    let z = p.2 in (
      p.0,
      record { long = z.long; most = rw l.ensures z.most; true_sizes = rw l.ensures z.true_sizes; inside = omega (arith, p.3, l.ensures) },
      record { within = subst (λ (b : Binding). BindsWithin b l.result) (sym e.is) (within_blank l.result); long = e.long },
      c.arity-due.ensures.1,
    )

pub returns : goal.returns
returns c =
    let e = c.match_rest.ensures in
    let l = c.length-len.ensures in
    tried_rest (under (goal.at.returns c).After-arity-due _ refl) c.clear.ensures.is (rw l at e.0) (rw l at e.1)
