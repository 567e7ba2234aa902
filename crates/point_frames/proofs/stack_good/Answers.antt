-- Answers of `stack_good`. Assumes nothing.
use mathlib.Core.List.{◌∷◌}
use mathlib.Core.Logic.{◌≢◌}
use mathlib.Core.Path.{◌≡◌, refl, sym, subst, ap, ◌∙◌}
use Prim.Native.Nat.{◌+◌, ◌-◌, ◌<◌}
use native.Mathlib.Omega.{arith}
use Rattle.flat.specs.Machine.{Frame}
use Rattle.flat.specs.Tested as T
use Rattle.term.specs.Present.{length_in}
use Rattle.units.specs.Frames.{flat}
use Rattle.units.specs.Stacks.{base, stack_of, height_in, store, Below}
use Rattle.point_frames.proofs.Stacks.{heights, stack_some, stack_none, lowest}
use Rattle.point_frames.proofs.Standing.{stack_fail, stack_pass, stack_empty, stack_last}
use Rattle.point_frames.proofs.stack_good.Goals as goal

pub height-height-requires : goal.height-height-requires
height-height-requires c =
    let p = c.requires in
    let l : c.args.v < 8 = omega (arith, p.1, p.0.kept.few) in
    (l, (heights p.0.kept).least _ l)

pub returns-then-height-eq0 : goal.returns-then-height-eq0
returns-then-height-eq0 c =
    let k = store c.args.work.now c.args.cells.now in
    let e : height_in c.args.cells.now c.args.v ≡ 0 = omega (arith, c.height-height.ensures, c.if-height-eq0.true) in
    record {
      is = λ B z q. ap (T.stack_good B z c.args.v) (stack_some k c.args.units c.args.v c.requires.1 0 e ∙ stack_none _ _ 0 refl) ∙ stack_empty B z _;
    }

pub overflow_sub-height : goal.overflow_sub-height
overflow_sub-height c = let h = c.height-height.result in let n : h ≢ 0 = c.if-height-eq0.false in omega arith

pub frame-f-requires : goal.frame-f-requires
frame-f-requires c = c.requires.0.kept

pub loop-h-init : goal.loop-h-init
loop-h-init c =
    let k = store c.args.work.now c.args.cells.now in
    let y = c.height-height.result in
    let q : y - 1 < height_in c.args.cells.now c.args.v = (let n : y ≢ 0 = c.if-height-eq0.false in omega (arith, c.height-height.ensures)) in
    let e : y ≡ y - 1 + 1 = (let n : y ≢ 0 = c.if-height-eq0.false in omega arith) in (
      q,
      λ B z p.
          ap (T.stack_good B z c.args.v)
          (stack_some k c.args.units c.args.v c.requires.1 y (sym c.height-height.ensures) ∙ lowest k c.args.units c.args.v c.requires.1 y (y - 1) q e
          ∙ ap (λ (g : Frame). g ∷ stack_of c.args.work.now (base c.args.v) (y - 1)) c.frame-f.ensures.0),
    )

pub frame-below-requires : goal.frame-below-requires
frame-below-requires c = c.requires.0.kept

pub stands_on-requires : goal.stands_on-requires
stands_on-requires c =
    (c.requires.0, subst (Below (length_in c.args.symbols.now)) c.frame-below.ensures.0 (c.requires.0.inside.each _ _))

pub returns-then-not-stands_on : goal.returns-then-not-stands_on
returns-then-not-stands_on c =
    let k = store c.args.work.now c.args.cells.now in
    let h = c.loop-h.h in
    record {
      is = λ B z q.
          c.loop-h.invariant.1 B z q
          ∙ stack_fail B z k c.args.units c.args.v c.requires.1 h (h - 1) (omega (arith, c.loop-h.invariant.0)) (omega arith) (flat c.loop-h.f)
          (flat c.frame-below.result) c.frame-below.ensures.0 c.stands_on.result (c.stands_on.ensures.is B z q) c.if-not-stands_on.true;
    }

pub loop-h-preserved : goal.loop-h-preserved
loop-h-preserved c =
    let k = store c.args.work.now c.args.cells.now in
    let h = c.loop-h.h in (
      omega (arith, c.loop-h.invariant.0),
      λ B z q.
          c.loop-h.invariant.1 B z q
          ∙ stack_pass B z k c.args.units c.args.v c.requires.1 h (h - 1) (omega (arith, c.loop-h.invariant.0)) (omega arith) (flat c.loop-h.f)
          (flat c.frame-below.result) c.frame-below.ensures.0 c.stands_on.result (c.stands_on.ensures.is B z q) c.if-not-stands_on.false,
    )

pub returns : goal.returns
returns c =
    record {
      is = λ B z q. c.loop-h.invariant.1 B z q ∙ stack_last B z _ (flat c.loop-h.f) _ _ c.loop-h.h (omega (arith, c.loop-h-test.false)) ∙ c.is_lowest.ensures B z;
    }
