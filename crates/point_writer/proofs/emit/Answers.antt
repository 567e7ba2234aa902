-- `point_writer::emit` meets its contract. Assumes nothing.
use native.Mathlib.Omega.{arith}
use Rattle.point_writer.proofs.Puts.{put_field}
use Rattle.point_writer.proofs.emit.Goals as goal

pub returns : goal.returns
returns c = (put_field _ _ _ c.put.ensures (omega arith), omega arith)
