-- `page::quad` meets its contract, by the law of four bytes. Assumes nothing.
use native.Mathlib.Omega.{arith}
use Rattle.stream.proofs.Numbers.{number_four}
use Rattle.page.proofs.quad.Goals as goal

pub returns : goal.returns
returns c =
    omega (arith, number_four c.args.input.now c.args.at c.requires, c.pair-2.ensures.0, c.pair.ensures.0)
