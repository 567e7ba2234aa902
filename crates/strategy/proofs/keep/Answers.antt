-- `strategy::keep` meets its contract: what is kept, by the number that follows. Assumes nothing.
use mathlib.Core.Bool.{true, false}
use mathlib.Core.Path.{refl, sym, ◌∙◌}
use native.Mathlib.Omega.{arith}
use lib.ListN.{get_or}
use Rattle.strategy.proofs.Front.{keeping_zero, keeping_argument, keeping_open, keeping_close, kept_as, kept_same}
use Rattle.strategy.proofs.keep.Goals as goal

pub returns-then-ends_in_zero : goal.returns-then-ends_in_zero
returns-then-ends_in_zero c = (
  kept_same _ _ _ (keeping_zero _ _ _ true c.in-0.is (sym c.if-ends_in_zero.true ∙ c.ends_in_zero.ensures)) c.requires.0,
  omega arith,
  c.requires.3,
  refl,
)

pub returns-then-found : goal.returns-then-found
returns-then-found c =
    let v = get_or c.args.kept.now c.args.i 0 in (
      kept_same _ _ _ (keeping_argument _ _ v true (omega arith) (omega arith) (sym c.if-found.true ∙ c.found.ensures)) c.requires.0,
      omega arith,
      c.requires.3,
      refl,
    )

pub returns-else-ends_in_zero : goal.returns-else-ends_in_zero
returns-else-ends_in_zero c = (
  kept_as _ _ _ _ (keeping_zero _ _ _ false c.in-0.is (sym c.if-ends_in_zero.false ∙ c.ends_in_zero.ensures)) c.push.ensures.0,
  omega arith,
  omega arith,
  c.push.ensures.2,
)

pub returns-in-8 : goal.returns-in-8
returns-in-8 c = (kept_as _ _ _ _ (keeping_open _ _ _ c.in-8.is) c.push-in-8.ensures.0, omega arith, omega arith, c.push-in-8.ensures.2)

pub returns-else-found : goal.returns-else-found
returns-else-found c =
    let v = get_or c.args.kept.now c.args.i 0 in (
      kept_as _ _ _ _ (keeping_argument _ _ v false (omega arith) (omega arith) (sym c.if-found.false ∙ c.found.ensures)) c.push-in-1-to-7.ensures.0,
      omega arith,
      omega arith,
      c.push-in-1-to-7.ensures.2,
    )

pub returns-in_default : goal.returns-in_default
returns-in_default c =
    let v = get_or c.args.kept.now c.args.i 0 in
    (kept_as _ _ _ _ (keeping_close _ _ v (omega arith)) c.close.ensures.0, c.close.ensures.1, c.close.ensures.2, c.close.ensures.3)
