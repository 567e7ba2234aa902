-- Answers of `build`. Assumes nothing.
use mathlib.Core.Path.{◌≡◌, ◌∙◌, refl}
use native.Mathlib.Omega.{arith}
use Rattle.rule.proofs.Tables.{lefts_stand}
use Rattle.overlap.proofs.Building.{building_starts, walkable, building_goes, building_ended}
use Rattle.overlap.proofs.build.Goals as goal

pub loop-i-init : goal.loop-i-init
loop-i-init c = building_starts _ _

pub left_side-left-requires : goal.left_side-left-requires
left_side-left-requires c =
    let p = c.requires in
    let f = p.0.tables.good.few_rules in
    omega arith

pub overflow_mul-i : goal.overflow_mul-i
overflow_mul-i c =
    let p = c.requires in
    let f = p.0.tables.good.few_rules in
    omega arith

pub walk-n-requires : goal.walk-n-requires
walk-n-requires c =
    let p = c.requires in
    let w = walkable _ _ c.loop-i.invariant (lefts_stand p.0.tables) (omega arith) p.1 in
    rw c.left_side-left.ensures.0 w

pub bounds-counts-i : goal.bounds-counts-i
bounds-counts-i c =
    let f = c.requires.0.tables.good.few_rules in
    omega arith

pub loop-i-preserved : goal.loop-i-preserved
loop-i-preserved c =
    let p = c.requires in
    let s = rw c.left_side-left.ensures.0 at c.walk-n.ensures in
    (building_goes _ _ c.loop-i.invariant (lefts_stand p.0.tables) (omega arith) _ s refl)

pub returns : goal.returns
returns c =
    let p = c.requires in
    let f = p.0.tables.good.few_rules in
    let e : c.loop-i.i ≡ c.args.m = omega arith in
    building_ended _ _ c.loop-i.invariant (e ∙ p.2) (omega arith)
