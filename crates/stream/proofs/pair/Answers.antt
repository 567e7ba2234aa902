-- `stream::pair` meets its contract, by the law of two bytes. Assumes nothing.
use native.Mathlib.Omega.{arith}
use Rattle.stream.proofs.Numbers.{number_two}
use Rattle.stream.proofs.pair.Goals as goal

pub returns : goal.returns
returns c =
    let v = c.index.ensures in
    let w = c.index-2.ensures in
    (omega (arith, number_two c.args.input.now c.args.at c.requires, v.0, w.0), omega (arith, v.1, w.1))
