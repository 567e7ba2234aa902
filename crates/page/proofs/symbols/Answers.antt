-- Answers of `symbols`. Assumes nothing.
use Rattle.stream.proofs.Puts.{put_none, put_as, put_both}
use Rattle.page.proofs.Decimals.{field_short, spaced_more, spaced_end}
use native.Mathlib.Omega.{arith}
use Rattle.page.proofs.symbols.Goals as goal

pub loop-symbol-init : goal.loop-symbol-init
loop-symbol-init c = (omega arith, c.told-page, λ page' r h. h)

pub decimal_field-p-requires : goal.decimal_field-p-requires
decimal_field-p-requires c =
    omega (arith, c.loop-symbol.invariant.0, c.requires.0, c.requires.1)

pub loop-symbol-preserved : goal.loop-symbol-preserved
loop-symbol-preserved c =
    let f = c.decimal_field-p.ensures in
    let l = c.loop-symbol in
    let s = c.type_inv.term l.symbol-index in (
      omega (arith, l.invariant.0, f.0.ends, field_short c.from.result (omega (arith, s.fits))),
      c.decimal_field-p.array_long,
      λ page' r h. l.invariant.2 page' r (put_as (spaced_more _ l.symbol-index _ (omega arith) c.from.ensures) (put_both f.0 h)),
    )

pub returns : goal.returns
returns c =
    let l = c.loop-symbol in (
      l.invariant.2 _ _
          (put_as (spaced_end _ l.symbol-index (omega arith)) (put_none _ _ (omega (arith, l.invariant.0, l.invariant.1, c.requires.0, c.requires.1)))),
      omega (arith, l.invariant.0, c.requires.0),
    )
