-- `writer::write_strategy` meets its contract, by the laws of Lists. Assumes nothing.
use mathlib.Core.Path.{sym, ◌∙◌}
use native.Mathlib.Omega.{arith}
use Rattle.writer.proofs.Puts.{put_as, put_both}
use Rattle.writer.proofs.Lists.{bits_of_default, bits_of_list}
use Rattle.writer.proofs.write_strategy.Goals as goal

pub returns-then-is_default : goal.returns-then-is_default
returns-then-is_default c =
    let s = c.requires in (
      put_as (bits_of_default _ _ s.1 s.2 _ (sym c.is_default.ensures ∙ c.if-is_default.true)) c.emit.ensures.0,
      omega arith,
    )

pub returns : goal.returns
returns c =
    let s = c.requires in (
      put_as (bits_of_list _ _ s.1 s.2 _ _ c.short.ensures (sym c.is_default.ensures ∙ c.if-is_default.false))
          (put_both c.emit-p.ensures.0 (put_both c.emit-q.ensures.0 c.write_items.ensures.0)),
      omega arith,
    )
