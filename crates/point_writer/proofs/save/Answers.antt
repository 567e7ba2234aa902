-- `point_writer::save` meets its contract. Assumes nothing.
use Rattle.point.specs.Saved.{arrays}
use Rattle.point_writer.proofs.Puts.{put_as, put_both}
use Rattle.point_writer.proofs.Fields.{saved_bits}
use Rattle.point_writer.proofs.save.Goals as goal

pub returns : goal.returns
returns c =
    put_as (saved_bits c.args.x (arrays c.args.symbols.now c.args.work.now c.args.cells.now c.args.order.now) c.requires.0.term)
    (put_both c.write_numbers-a.ensures.0 (put_both c.write_term-b.ensures.0 (put_both c.write_units-c.ensures.0 c.write_order.ensures.0)))
