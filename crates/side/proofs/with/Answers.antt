-- `side::with` meets its contract: a bit that is not there fits. Assumes nothing.
use Rattle.std.proofs.Common.{◌∙◌, one-mul, arith, shl_exact}
use Rattle.side.proofs.Mask.{with_fits}
use Rattle.side.proofs.with.Goals as goal

pub overflow_add-result : goal.overflow_add-result
overflow_add-result c =
    let e = shl_exact 1 c.args.v 16 (omega arith) (omega arith) ∙ one-mul _ in
    let f = with_fits 16 c.args.v c.args.mask (omega arith) c.requires.0 c.requires.1 in
    rw e (omega arith)

pub returns : goal.returns
returns c = rw (shl_exact 1 c.args.v 16 (omega arith) (omega arith) ∙ one-mul _)
