-- `records::put_refusal` meets its contract. Assumes nothing.
use native.Mathlib.Omega.{arith}
use Rattle.records.proofs.Writing.{put_one}
use Rattle.records.proofs.put_refusal.Goals as goal

pub returns : goal.returns
returns c = put_one _ _ _ (omega arith)
