-- `strategy::clear` meets its contract: the part is filled with 0s. Assumes nothing.
use Rattle.std.proofs.Common.{arith}
use Rattle.strategy.proofs.Codes.{filled}
use Rattle.strategy.proofs.clear.Goals as goal

pub returns : goal.returns
returns c =
    filled _ c.args.from c.args.end (c.fill.ensures.after (λ y e. e)) c.requires.0 (omega (arith, c.told-operators))
