-- `point_frames::tally::count_exit` meets its contract: the counter of the frame that is named is one more. Assumes nothing.
use Prim.Native.Nat.{◌<◌}
use native.Mathlib.Omega.{arith}
use Rattle.point_frames.proofs.Counts.{exit_room, exit_stored, exit_no_frame, exit_no_unit}
use Rattle.point_frames.proofs.tally.count_exit.Goals as goal
use Rattle.point_frames.proofs.tally.count_exit.Goals.{else-v-units-via-then-v-units+else-i-height, else-v-units-via-else-v-units}

pub height-requires : goal.height-requires
height-requires c =
    let p = c.requires.0 in
    let l : c.index-v.result < 8 = omega (arith, p.few) in
    (l, p.least _ l)

pub overflow_add-exits : goal.overflow_add-exits
overflow_add-exits c =
    record {
      fits = omega (arith, exit_room c.requires.0 c.index-v.ensures.0 c.offset-i.ensures.0 c.height.result c.requires.1 c.if-v-units.true c.height.ensures c.if-i-height.true);
    }

pub returns-then-i-height : goal.returns-then-i-height
returns-then-i-height c =
    exit_stored c.requires.0 c.index-v.ensures.0 c.offset-i.ensures.0 c.height.result c.requires.1.long c.if-v-units.true
    c.height.ensures c.if-i-height.true

pub returns-else-v-units : goal.returns-else-v-units
returns-else-v-units c =
    elim c.else-v-units.branch [
      | else-v-units-via-then-v-units+else-i-height w ↦
          exit_no_frame c.requires.0 c.index-v.ensures.0 c.offset-i.ensures.0 w.height.result c.requires.1.long w.height.ensures w.if-i-height.false
      | else-v-units-via-else-v-units w ↦ exit_no_unit c.requires.0 c.index-v.ensures.0 c.offset-i.ensures.0 0 c.requires.1.long w.if-v-units.false
    ]

pub overflow_mul-k : goal.overflow_mul-k
overflow_mul-k c = omega (arith, c.requires.0.few)

pub overflow_add-k : goal.overflow_add-k
overflow_add-k c = omega (arith, c.requires.0.few)

pub offset_bounds-exits-k : goal.offset_bounds-exits-k
offset_bounds-exits-k c = omega (arith, c.requires.0.few)

pub bounds-exits-k : goal.bounds-exits-k
bounds-exits-k c =
    let p = c.requires.0 in
    omega (arith, c.height.ensures, p.few, p.most c.index-v.result)

pub bounds-exits-k-then-i-height : goal.bounds-exits-k-then-i-height
bounds-exits-k-then-i-height c =
    let p = c.requires.0 in
    omega (arith, c.height.ensures, p.few, p.most c.index-v.result)
