-- `net::raise` meets its contract. Assumes nothing.
use mathlib.Core.Path.{refl, sym}
use native.Mathlib.Omega.{arith}
use Rattle.net.specs.Layout.{cell}
use Rattle.net.proofs.Cells.{placed, cell_kept, larger_first, larger_second}
use Rattle.net.proofs.raise.Goals as goal

pub returns-then-cell-d : goal.returns-then-cell-d
returns-then-cell-d c =
    let e = c.cell.ensures.0 in
    placed refl (sym (larger_second (cell c.args.net.now c.args.column c.args.i) c.args.d (omega arith))) c.put.ensures

pub returns-else-cell-d : goal.returns-else-cell-d
returns-else-cell-d c =
    let e = c.cell.ensures.0 in
    cell_kept _ c.args.column c.args.i _ (larger_first (cell c.args.net.now c.args.column c.args.i) c.args.d (omega arith))
