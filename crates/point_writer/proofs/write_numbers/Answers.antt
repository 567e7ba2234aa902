-- `point_writer::write_numbers` meets its contract. Assumes nothing.
use native.Mathlib.Omega.{arith}
use Rattle.point_writer.proofs.Puts.{put_as, put_both}
use Rattle.point_writer.proofs.Fields.{numbers_bits}
use Rattle.point_writer.proofs.write_numbers.Goals as goal

pub returns : goal.returns
returns c = (
  put_as (numbers_bits c.args.x _ _ _ (let n = c.short.ensures in omega arith) c.position.ensures.0 c.position-2.ensures.0)
      (put_both c.emit-a.ensures.0 (put_both c.write_word-b.ensures.0 (put_both c.write_count-c.ensures.0
      (put_both c.write_count-d.ensures.0 (put_both c.write_count-e.ensures.0 c.write_count.ensures.0))))),
  omega (arith, c.emit-a.ensures.1, c.write_word-b.ensures.1, c.write_count-c.ensures.1, c.write_count-d.ensures.1, c.write_count-e.ensures.1, c.write_count.ensures.1),
)
