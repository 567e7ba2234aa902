-- Answers of `write_items`. Assumes nothing.
use Rattle.writer.proofs.Puts.{put_none, put_as, put_both}
use Rattle.writer.proofs.Lists.{items_more, items_end}
use mathlib.Core.Path.{refl, ◌∙◌}
use native.Mathlib.Omega.{arith}
use Rattle.writer.proofs.write_items.Goals as goal

pub loop-i-init : goal.loop-i-init
loop-i-init c = (omega arith, omega arith, refl, λ out' r h. h)

pub loop-i-preserved : goal.loop-i-preserved
loop-i-preserved c =
    let e = c.emit-to.ensures in (
      omega arith,
      omega arith,
      e.0.long ∙ c.loop-i.invariant.2,
      λ out' r h. c.loop-i.invariant.3 out' r
          (put_as (items_more _ c.args.len c.requires.0 c.requires.1 c.loop-i.i _ (omega arith) c.low.ensures.0)
          (put_both e.0 h)),
    )

pub returns : goal.returns
returns c =
    let l = c.loop-i in
    (l.invariant.3 _ _ (put_as (items_end _ c.args.len c.requires.0 c.requires.1 l.i (omega arith)) (put_none _ _)), omega arith)
