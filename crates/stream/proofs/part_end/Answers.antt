-- `stream::part_end` meets its contract, by the laws of counted bytes. Assumes nothing.
use mathlib.Core.Path.{refl}
use native.Mathlib.Omega.{arith}
use Rattle.stream.proofs.Parts.{counted_none, counted_few, counted_at}
use Rattle.stream.proofs.part_end.Goals as goal

pub returns-then-input-at-lt2 : goal.returns-then-input-at-lt2
returns-then-input-at-lt2 c = record { is = counted_none _ c.args.at (omega arith); within = tt }

pub returns-then-input-start : goal.returns-then-input-start
returns-then-input-start c =
    record { is = counted_few _ c.args.at (omega arith) _ c.pair-n.ensures.0 (omega arith); within = tt }

pub returns : goal.returns
returns c =
    record { is = counted_at _ c.args.at (omega arith) _ _ c.pair-n.ensures.0 refl (omega arith); within = (omega arith, omega arith) }
