-- Answers of `write_marks`. Assumes nothing.
use mathlib.Core.Path.{ap, ◌∙◌}
use native.Mathlib.Omega.{arith}
use Rattle.paper.specs.Bits.{to_bits}
use Rattle.flat.specs.Form.{write_mark}
use Rattle.symbol.specs.Record.{marked}
use Rattle.point_writer.proofs.Puts.{put_none, put_as, put_both}
use Rattle.point_writer.proofs.Fields.{mark_bits, symbols_end, symbols_more}
use Rattle.point_writer.proofs.write_marks.Goals as goal

pub loop-x-preserved : goal.loop-x-preserved
loop-x-preserved c =
    let e = c.emit-to.ensures in (
      omega arith,
      e.0.long ∙ c.loop-x.invariant.1,
      λ out' r h. c.loop-x.invariant.2 out' r
          (put_as
          (symbols_more marked write_mark _ c.args.n (omega arith) c.loop-x.x-index (omega (arith, c.loop-x-test.true))
          (ap (to_bits 1) c.from.ensures ∙ mark_bits _ ∙ ap write_mark c.is_marked.ensures))
          (put_both e.0 h)),
    )

pub returns : goal.returns
returns c =
    let l = c.loop-x in
    (l.invariant.2 _ _ (put_as (symbols_end marked write_mark _ c.args.n (omega arith) l.x-index (omega arith)) (put_none _ _ (omega arith))), omega arith)
