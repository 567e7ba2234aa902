-- `strategy::lay_out` meets its contract, by the laws of Rows. Assumes nothing.
use native.Mathlib.Omega.{arith}
use Rattle.strategy.proofs.Rows.{short_codes, laid_out}
use Rattle.strategy.proofs.lay_out.Goals as goal

pub put_codes-end-requires : goal.put_codes-end-requires
put_codes-end-requires c = let l = c.requires in (l.long, l.short, omega arith, short_codes l)

pub clear-requires : goal.clear-requires
clear-requires c =
    omega (arith, short_codes c.requires, c.put_codes-end.ensures.1)

pub returns : goal.returns
returns c =
    laid_out c.requires c.row_start.result _ c.row_start-2.result _ _ c.row_start.ensures (omega arith)
    c.put_codes-end.ensures.0 c.put_codes-end.ensures.1 c.clear.ensures
