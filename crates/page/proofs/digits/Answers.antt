-- Answers of `digits`. Assumes nothing.
use Rattle.page.proofs.Decimals.{digits_start, digit_last, digit_more, digits_none}
use mathlib.Core.Path.{◌≡◌, refl, sym, ap, ◌∙◌}
use Prim.Native.Nat.{ℕ, ◌-◌}
use native.Mathlib.Omega.{arith}
use lib.ListN.{drop, length-set}
use Rattle.page.proofs.digits.Goals as goal

pub loop-i-init : goal.loop-i-init
loop-i-init c = (c.told-d, digits_start _ c.args.d.now c.told-d)

pub returns-then-left-lt10 : goal.returns-then-left-lt10
returns-then-left-lt10 c =
    let l = c.loop-i in
    record {
      start = omega arith;
      are = digit_last l.i (l.i - 1) l.left l.d (omega arith) (omega (arith, l.invariant.0)) c.if-left-lt10.true (omega arith) ∙ l.invariant.1;
    }

pub loop-i-preserved : goal.loop-i-preserved
loop-i-preserved c =
    let l = c.loop-i in (
      simp length-set l.invariant.0,
      digit_more l.i (l.i - 1) l.left l.d (omega arith) (omega (arith, l.invariant.0)) c.if-left-lt10.false refl ∙ l.invariant.1,
    )

pub returns : goal.returns
returns c =
    let l = c.loop-i in
    let e : l.i ≡ 0 = omega arith in
    record { start = omega arith; are = ap (λ (i : ℕ). drop i l.d) (sym e) ∙ digits_none l.i l.left l.d e ∙ l.invariant.1 }
