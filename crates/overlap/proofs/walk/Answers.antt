-- Answers of `walk`. Assumes nothing.
use Prim.Native.Nat.{◌<◌}
use mathlib.Core.Logic.{inl, inr}
use mathlib.Core.Path.{refl}
use native.Mathlib.Omega.{arith}
use borrow.Author.Rules.{rules}
use Rattle.overlap.proofs.Walking.{walking_starts, walking_passed, walking_entered, walking_ended, cell_inside, place_below, operator_fits, entered_base}
use Rattle.overlap.proofs.walk.Goals as goal
use Rattle.overlap.proofs.walk.Goals.{in-Variable, in-Operator}

pub overflow_add-base : goal.overflow_add-base
overflow_add-base c = let f = c.requires.few in omega arith

pub loop-init : goal.loop-init
loop-init c = walking_starts c.requires _ refl refl

pub symbol_at-requires : goal.symbol_at-requires
symbol_at-requires c = let f = c.requires.short in omega arith

pub overflow_add-top : goal.overflow_add-top
overflow_add-top c = search rules

pub bounds-stack-top : goal.bounds-stack-top
bounds-stack-top c = search rules

pub overflow_add-first : goal.overflow_add-first
overflow_add-first c = let f = c.requires.few in omega arith

pub overflow_add-first-in-Operator : goal.overflow_add-first-in-Operator
overflow_add-first-in-Operator c =
    let f = c.requires.few in
    let m = c.loop.invariant.cells_most in
    let n = c.loop.invariant.read_most in
    let t = c.loop.invariant.top_most in
    omega arith

pub enter-z-requires : goal.enter-z-requires
enter-z-requires c =
    let W = c.requires in
    let i = cell_inside W c.loop.invariant (let m = c.loop.invariant.top_most in omega arith) in
    let b = place_below W c.loop.invariant (let m = c.loop.invariant.top_most in omega arith) in
    let e = c.from-place.ensures in
    let f = W.few in
    (c.loop.invariant.linked, omega arith, omega arith, i.0, omega arith)

pub bounds-bases-z : goal.bounds-bases-z
bounds-bases-z c =
    let i = cell_inside c.requires c.loop.invariant (let m = c.loop.invariant.top_most in omega arith) in
    omega (arith, c.enter-z.ensures.linked.inside _ _ _ c.enter-z.ensures.named)

pub offset_bounds-bases-z : goal.offset_bounds-bases-z
offset_bounds-bases-z c =
    let i = cell_inside c.requires c.loop.invariant (let m = c.loop.invariant.top_most in omega arith) in
    omega (arith, c.enter-z.ensures.linked.inside _ _ _ c.enter-z.ensures.named)

pub push-top-requires : goal.push-top-requires
push-top-requires c =
    let W = c.requires in
    let I = c.loop.invariant in
    let t : c.loop.top < 64 = (let m = c.loop.invariant.top_most in omega arith) in
    let h = rw c.in-Operator.is at c.symbol_at.ensures in
    let E = rw c.from-place.ensures at c.enter-z.ensures in
    let a = c.arity-arity.ensures.0 in
    let f = operator_fits W I t _ _ h in
    let b = entered_base W I t _ _ h E in
    let i = cell_inside W I t in
    let m = W.few in
    let z = c.from.ensures in
    (I.long, omega arith, omega arith, omega arith)

pub overflow_add-base-in-Operator : goal.overflow_add-base-in-Operator
overflow_add-base-in-Operator c =
    let i = cell_inside c.requires c.loop.invariant (let m = c.loop.invariant.top_most in omega arith) in
    let m = c.arity-arity.ensures.1 in
    let f = c.requires.few in
    omega arith

pub overflow_add-k : goal.overflow_add-k
overflow_add-k c =
    let m = c.loop.invariant.cells_most in
    let n = c.loop.invariant.read_most in
    let t = c.loop.invariant.top_most in
    omega arith

pub loop-preserved : goal.loop-preserved
loop-preserved c =
    let W = c.requires in
    let t : c.loop.top < 64 = (let m = c.loop.invariant.top_most in omega arith) in
    elim c.match-symbol_at.branch [
      | in-Variable w ↦
          rw (w.links-is, w.codes-is, w.bases-is, w.places-is, w.nodes-is, w.stack-is, w.top-is, w.p-is, w.base-is, w.k-is)
          (walking_passed W c.loop.invariant t _ _ (rw w.in-Variable.is at c.symbol_at.ensures))
      | in-Operator w ↦
          let h = rw w.in-Operator.is at c.symbol_at.ensures in
          let E = rw w.from-place.ensures at w.enter-z.ensures in
          let p = w.push-top.ensures in
          rw (w.links-is, w.codes-is, w.bases-is, w.places-is, w.nodes-is, w.stack-is, w.top-is, w.p-is, w.base-is, w.k-is)
          (walking_entered W c.loop.invariant t _ _ h E _ w.arity-arity.result _ _ w.arity-arity.ensures.0 p.1 p.0 refl (rw w.from.ensures at p.2))
    ]

pub returns-then-top-eq64 : goal.returns-then-top-eq64
returns-then-top-eq64 c = walking_ended c.requires c.loop.invariant (inl (omega arith))

pub returns-after-loop : goal.returns-after-loop
returns-after-loop c = walking_ended c.requires c.loop.invariant (inr (omega arith))
