-- `writer::emit` meets its contract, by the laws of Puts. Assumes nothing.
use native.Mathlib.Omega.{arith}
use Rattle.writer.proofs.Puts.{put_field, put_out}
use Rattle.writer.proofs.emit.Goals as goal

pub returns-then-end-out : goal.returns-then-end-out
returns-then-end-out c = (put_field _ _ _ c.put.ensures (omega arith), omega arith)

pub returns : goal.returns
returns c = (put_out _ _ _ _ (omega arith), omega arith)
