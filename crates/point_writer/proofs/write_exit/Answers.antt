-- `point_writer::write_exit` meets its contract. Assumes nothing.
use native.Mathlib.Omega.{arith}
use Rattle.point_writer.proofs.Puts.{put_as, put_both}
use Rattle.point_writer.proofs.Fields.{exit_bits}
use Rattle.point_writer.proofs.write_exit.Goals as goal

pub returns : goal.returns
returns c =
    let x = c.args.exit in (
      put_as (exit_bits x.unit x.index _ c.from.ensures) (put_both c.emit-a.ensures.0 (put_both c.emit-b.ensures.0 c.emit.ensures.0)),
      omega (arith, c.emit-a.ensures.1, c.emit-b.ensures.1, c.emit.ensures.1),
    )
