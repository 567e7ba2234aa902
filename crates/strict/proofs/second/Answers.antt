-- Answers of `second`. Assumes nothing.
use mathlib.Core.Bool.{not}
use mathlib.Core.Path.{refl, sym, ap, ◌∙◌}
use native.Mathlib.Omega.{arith}
use Rattle.strict.proofs.Rules.{compatible_by, with_next, with_found, with_none}
use Rattle.strict.proofs.second.Goals as goal

pub loop-j-init : goal.loop-j-init
loop-j-init c = (omega arith, λ rs h l. refl)

pub returns-then-not-apart : goal.returns-then-not-apart
returns-then-not-apart c =
    let t = c.loop-j-test.true in
    let i = c.args.i in
    let p = c.requires.0 in
    record {
      is = λ rs h e.
          let f = with_found rs i c.loop-j.j (omega arith) (compatible_by h (omega arith) (omega arith) _ c.apart.ensures ∙ ap not c.if-not-apart.true) in
          sym (c.loop-j.invariant.1 rs h e ∙ f);
      below = t;
    }

pub loop-j-preserved : goal.loop-j-preserved
loop-j-preserved c =
    let t = c.loop-j-test.true in
    let i = c.args.i in
    let p = c.requires.0 in
    let v = c.loop-j.invariant.0 in
    (omega arith, λ rs h e. c.loop-j.invariant.1 rs h e ∙ with_next rs i c.loop-j.j (omega arith) (compatible_by h (omega arith) (omega arith) _ c.apart.ensures ∙ ap not c.if-not-apart.false))

pub returns : goal.returns
returns c =
    let t = c.loop-j-test.false in
    record { is = λ rs h e. sym (c.loop-j.invariant.1 rs h e ∙ with_none rs c.args.i c.loop-j.j (omega arith)); below = tt }
