-- `points::replace` meets its contract. Assumes nothing.
use mathlib.Core.Path.{sym, ap, ◌∙◌, subst}
use Rattle.point.specs.declared.Numbers.{Numbers}
use Rattle.point.specs.Saved.{arrays, saved}
use Rattle.point_writer.specs.Promises.{Savable}
use Rattle.parking.specs.Form.{write_point}
use Rattle.parking.specs.Points.{put}
use Rattle.points.specs.Promises.{point}
use Rattle.points.proofs.Slots.{if_cut, if_over}
use Rattle.points.proofs.replace.Goals as goal

pub returns-else-is_cut : goal.returns-else-is_cut
returns-else-is_cut c =
    if_over c.args.run _ _ _ (sym c.is_cut.ensures ∙ c.if-is_cut.false) c.free.ensures

pub save-requires : goal.save-requires
save-requires c =
    let a = arrays c.args.symbols.now c.args.work.now c.args.cells.now c.args.order.now in (
      subst (λ (x : Numbers). Savable x a) (sym c.numbers-x.ensures) (c.requires.0 (sym c.is_cut.ensures ∙ c.if-is_cut.true)),
      c.requires.1,
    )

pub returns-then-is_cut : goal.returns-then-is_cut
returns-then-is_cut c =
    let a = arrays c.args.symbols.now c.args.work.now c.args.cells.now c.args.order.now in
    if_cut c.args.run _ _ _ (sym c.is_cut.ensures ∙ c.if-is_cut.true)
    (c.save.ensures
    ∙ ap (λ (x : Numbers). put c.args.k (write_point (point c.args.name.now c.args.book.now c.args.day (saved x a))) c.args.points.now) c.numbers-x.ensures)
