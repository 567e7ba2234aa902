-- Answers of `answer_lines`. Assumes nothing.
use mathlib.Core.Path.{refl}
use native.Mathlib.Omega.{arith}
use borrow.Author.Rules.{rules}
use Rattle.engine.proofs.Frame.{frame_of}
use Rattle.batch.proofs.Loop.{open_as, none_yet, few, one_more, stopped}
use Rattle.batch.proofs.answer_lines.Goals as goal

pub names_units-named-requires : goal.names_units-named-requires
names_units-named-requires c = (frame_of c.requires.faultless).some_units

pub loop-stop-init : goal.loop-stop-init
loop-stop-init c = (refl, refl, record { line_long = refl; symbols_long = refl; scratch_long = refl }, none_yet)

pub returns-in-Err : goal.returns-in-Err
returns-in-Err c =
    stopped c.loop-stop.invariant.3 _ (rw c.in-Err.is at c.next_line.ensures)

pub slice_bounds-answer_line-count : goal.slice_bounds-answer_line-count
slice_bounds-answer_line-count c =
    let g = rw c.in-Ok.is at c.next_line.ensures in
    omega (arith, g.0)

pub answer_line-written-requires : goal.answer_line-written-requires
answer_line-written-requires c =
    let g = rw c.in-Ok.is at c.next_line.ensures in
    let i = c.loop-stop.invariant in
    record {
      fact = open_as i.0 c.requires;
      arrays = i.2;
      named_value = (c.names_units-named.ensures, omega (arith, g.2, i.3.written.fits));
    }

pub overflow_add-count : goal.overflow_add-count
overflow_add-count c =
    let g = rw c.in-Ok.is at c.next_line.ensures in
    omega (arith, few c.loop-stop.invariant.3, g.0)

pub loop-stop-smaller : goal.loop-stop-smaller
loop-stop-smaller c =
    let g = rw c.in-Ok.is at c.next_line.ensures in
    omega (arith, g.0, g.1)

pub loop-stop-preserved : goal.loop-stop-preserved
loop-stop-preserved c =
    let g = rw c.in-Ok.is at c.next_line.ensures in
    let a = c.answer_line-written.ensures in
    let i = c.loop-stop.invariant in
    (search rules, search rules, a.arrays_after, one_more i.3 _ g i.0 a.line_done)
