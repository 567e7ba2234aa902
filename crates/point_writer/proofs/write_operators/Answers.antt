-- Answers of `write_operators`. Assumes nothing.
use mathlib.Core.Path.{ap, ◌∙◌}
use native.Mathlib.Omega.{arith}
use Rattle.paper.specs.Bits.{to_bits}
use Rattle.symbol.specs.Record.{operator}
use Rattle.point_writer.proofs.Puts.{put_none, put_as, put_both}
use Rattle.point_writer.proofs.Fields.{symbols_end, symbols_more}
use Rattle.point_writer.proofs.write_operators.Goals as goal

pub loop-x-preserved : goal.loop-x-preserved
loop-x-preserved c =
    let e = c.emit-to.ensures in (
      omega arith,
      e.0.long ∙ c.loop-x.invariant.1,
      λ out' r h. c.loop-x.invariant.2 out' r
          (put_as
          (symbols_more operator (to_bits 8) _ c.args.n (omega arith) c.loop-x.x-index (omega (arith, c.loop-x-test.true))
          (ap (to_bits 8) (c.from.ensures ∙ c.operator.ensures)))
          (put_both e.0 h)),
    )

pub returns : goal.returns
returns c =
    let l = c.loop-x in
    (l.invariant.2 _ _ (put_as (symbols_end operator (to_bits 8) _ c.args.n (omega arith) l.x-index (omega arith)) (put_none _ _ (omega arith))), omega arith)
