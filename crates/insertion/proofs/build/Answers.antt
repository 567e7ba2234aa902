-- Answers of `build`. Assumes nothing.
use mathlib.Core.Path.{refl, ◌∙◌}
use Prim.Native.Nat.{◌<◌}
use native.Mathlib.Omega.{arith}
use lib.ListN.{length}
use Rattle.tables.specs.Tables.{book_of}
use Rattle.insertion.proofs.Books.{few, positions, building_none, building_sides, ready, building_on, built}
use Rattle.insertion.proofs.build.Goals as goal
use Rattle.insertion.proofs.build.Goals.{In-loop-j}

-- the number j is one of a rule
number : (c : In-loop-j) → c.loop-j.j < length (book_of c.args.book.now c.args.rules.now).rules
number c = let e = c.requires.0.tables.rules_in.counted in omega (arith, c.count-j-end.ensures.0)

pub put_day-requires : goal.put_day-requires
put_day-requires c =
    let p = c.requires in
    let s = c.start.ensures.long in
    (omega arith, omega arith)

pub loop-j-init : goal.loop-j-init
loop-j-init c =
    let p = c.requires in
    building_none p.0 _ p.2 c.start.ensures c.day.ensures.0 c.put_day.ensures

pub left_side-requires : goal.left_side-requires
left_side-requires c =
    let n = number (goal.at.left_side-requires c).In-loop-j in
    let f = few c.requires.0 in
    omega arith

pub right_side-requires : goal.right_side-requires
right_side-requires c =
    let n = number (goal.at.right_side-requires c).In-loop-j in
    let f = few c.requires.0 in
    omega arith

pub put_sides-requires : goal.put_sides-requires
put_sides-requires c =
    let n = number (goal.at.put_sides-requires c).In-loop-j in
    let p = c.requires in
    let f = few p.0 in
    let (a, b) = positions p.0 p.1 c.loop-j.j n in
    (c.loop-j.invariant.is.long, omega arith, omega arith, omega arith)

pub insert-requires : goal.insert-requires
insert-requires c =
    let n = number (goal.at.insert-requires c).In-loop-j in
    let p = c.requires in
    let h =
    building_sides p.0 c.loop-j.j _ _ n c.loop-j.invariant c.left_side.ensures.0 c.right_side.ensures.0
    c.put_sides.ensures
    in
    (omega arith, ready p.0 h refl n)

pub loop-j-preserved : goal.loop-j-preserved
loop-j-preserved c =
    let n = number (goal.at.loop-j-preserved c).In-loop-j in
    let p = c.requires in
    let h =
    building_sides p.0 c.loop-j.j _ _ n c.loop-j.invariant c.left_side.ensures.0 c.right_side.ensures.0
    c.put_sides.ensures
    in
    building_on p.0 h _ refl n refl c.insert.ensures

pub shape_of-net : goal.shape_of-net
shape_of-net c =
    let a = c.put_day.ensures.long in
    let b = c.start.ensures.long in
    c.loop-j.invariant.long ∙ omega arith

pub returns : goal.returns
returns c =
    let p = c.requires in
    let e = p.0.tables.rules_in.counted in
    let q = c.count-j-end.ensures.0 in
    let a = c.put_day.ensures.long in
    let b = c.start.ensures.long in
    built p.0 c.loop-j.invariant _ (omega arith) (omega arith) (omega arith)
