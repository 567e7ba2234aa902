-- `point_writer::write_count` meets its contract. Assumes nothing.
use native.Mathlib.Omega.{arith}
use mathlib.Core.Path.{refl}
use Rattle.point_writer.proofs.Puts.{put_as, put_both, in_two}
use Rattle.point_writer.proofs.write_count.Goals as goal

pub returns : goal.returns
returns c = (
  put_as (in_two 32 32 c.args.v _ _ refl refl) (put_both c.write_word-p.ensures.0 c.write_word.ensures.0),
  omega (arith, c.write_word-p.ensures.1, c.write_word.ensures.1),
)
