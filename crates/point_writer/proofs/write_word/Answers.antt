-- `point_writer::write_word` meets its contract. Assumes nothing.
use native.Mathlib.Omega.{arith}
use Rattle.point_writer.proofs.Puts.{put_as, put_both, in_two}
use Rattle.point_writer.proofs.write_word.Goals as goal

pub returns : goal.returns
returns c = (
  put_as (in_two 16 16 c.args.v _ _ c.short.ensures c.short-2.ensures) (put_both c.emit-p.ensures.0 c.emit.ensures.0),
  omega (arith, c.emit-p.ensures.1, c.emit.ensures.1),
)
