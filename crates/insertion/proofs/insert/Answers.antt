-- `insertion::insert` meets its contract. Assumes nothing.
use mathlib.Core.Path.{sym}
use native.Mathlib.Omega.{arith}
use Rattle.insertion.proofs.Walks.{placed_root, read_there, placed_behind, placed_off}
use Rattle.insertion.proofs.insert.Goals as goal

pub returns-in_default : goal.returns-in_default
returns-in_default c =
    let p = c.requires in
    placed_root p.1 _ (read_there _ c.left_side.ensures.0 c.read-root.ensures) _ _ (omega arith)
    (sym c.in_default.ensures.0) c.put_root.ensures

pub walk-requires : goal.walk-requires
walk-requires c =
    let p = c.requires in
    (p.0, p.1, read_there _ c.left_side.ensures.0 c.read-root.ensures, sym c.in-Some.ensures.0)

pub append-requires : goal.append-requires
append-requires c =
    let p = c.requires in
    let h = rw c.in-Behind.is at c.walk.ensures in
    let few = p.1.few in
    (p.1.is.long, λ c s l e. (let q = p.1.is.sames c s l e in (q.0, q.1)), h.0, omega arith)

pub put_way-requires : goal.put_way-requires
put_way-requires c =
    let p = c.requires in
    let h = rw c.in-Off.is at c.walk.ensures in
    let few = p.1.few in
    let a = h.0 in
    (p.1.is.long, omega arith, h.1, omega arith, p.1.is.descends)

pub returns-in-Behind : goal.returns-in-Behind
returns-in-Behind c =
    let h = rw c.in-Behind.is at c.walk.ensures in
    placed_behind _ h c.append.ensures

pub returns-in-Off : goal.returns-in-Off
returns-in-Off c =
    let h = rw c.in-Off.is at c.walk.ensures in
    placed_off _ h c.put_way.ensures
