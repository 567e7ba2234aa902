-- `point_writer::write_term` meets its contract. Assumes nothing.
use native.Mathlib.Omega.{arith}
use Rattle.point_writer.proofs.Puts.{put_as, put_both}
use Rattle.point_writer.proofs.Fields.{term_bits}
use Rattle.point_writer.proofs.write_term.Goals as goal

pub returns : goal.returns
returns c = (
  put_as (term_bits _ _ _ c.length-n.ensures c.short.ensures)
      (put_both c.emit-a.ensures.0 (put_both c.write_operators-b.ensures.0 c.write_marks.ensures.0)),
  omega (arith, c.emit-a.ensures.1, c.write_operators-b.ensures.1, c.write_marks.ensures.1),
)
