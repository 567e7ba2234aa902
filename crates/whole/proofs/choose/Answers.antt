-- `whole::choose` meets its contract. Assumes nothing.
use native.Mathlib.Omega.{arith}
use Rattle.lookup.proofs.Rooting.{root_missed, root_found}
use Rattle.whole.proofs.Choosing.{around, fillable, fills, picks}
use Rattle.whole.proofs.choose.Goals as goal

pub returns-in_default : goal.returns-in_default
returns-in_default c =
    let p = c.requires in
    record { is = (root_missed p.0 p.2 c.in_default.ensures.0).is; long = p.1 }

pub find-requires : goal.find-requires
find-requires c =
    let p = c.requires in
    (p.0, root_found p.0 p.2 c.in-Some.ensures.0, p.1)

pub overflow_sub-limit-2 : goal.overflow_sub-limit-2
overflow_sub-limit-2 c =
    rw c.length.ensures (around c.requires.0 c.in-Some-find.ensures.0)

pub fill-requires : goal.fill-requires
fill-requires c =
    let q = c.requires.0 in
    let h = c.in-Some-find.ensures in (
      fillable q h.0 c.right_side-at.ensures.0,
      q.sized,
      h.1,
      omega arith,
    )

pub returns-in-Some-fill : goal.returns-in-Some-fill
returns-in-Some-fill c =
    let z = c.in-Some-fill.ensures in
    record {
      is = picks c.requires.0 c.in-Some-find.ensures.0 c.right_side-at.ensures.0 (rw c.length.ensures) c.args.p c.args.l
          c.if-p-l.false z;
      long = z.long;
    }

pub returns-in-None : goal.returns-in-None
returns-in-None c =
    let z = c.in-None.ensures in
    record {
      is = fills c.requires.0 c.in-Some-find.ensures.0 c.right_side-at.ensures.0 (rw c.length.ensures) c.args.p c.args.l
          c.if-p-l.false z;
      long = z.long;
    }
