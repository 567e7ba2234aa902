-- `point_writer::write_job` meets its contract. Assumes nothing.
use native.Mathlib.Omega.{arith}
use Rattle.point_writer.proofs.Puts.{put_as, put_both}
use Rattle.point_writer.proofs.Fields.{job_bits}
use Rattle.point_writer.proofs.write_job.Goals as goal

pub returns : goal.returns
returns c =
    let j = c.args.job in (
      put_as (job_bits j.offset j.next j.count _ _ c.from.ensures c.from-2.ensures)
          (put_both c.emit-a.ensures.0 (put_both c.emit-b.ensures.0 (put_both c.emit-c.ensures.0 c.emit.ensures.0))),
      omega (arith, c.emit-a.ensures.1, c.emit-b.ensures.1, c.emit-c.ensures.1, c.emit.ensures.1),
    )
